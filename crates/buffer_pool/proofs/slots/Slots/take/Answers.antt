use Rattle.std.proofs.Common.{◌≡◌, ◌∙◌, ◌+◌, ◌-◌, ◌*◌, ◌≤◌, List, ap, get_or, length, set, subst, sym}
use Rattle.indexmap.specs.IndexMap.{set_value_at}
use Rattle.std.specs.Map.{values_of}
use Rattle.std.specs.Prelude.{IsSome, None, Option}
use Rattle.page_core.specs.declared.page.Page.{Page}
use Rattle.page_core.specs.declared.page.TheConstants.{MAX_PAGES}
use Rattle.buffer_pool.specs.Slots.{AreCounted, SlotsView, pages_in}
use Rattle.buffer_pool.proofs.Holes.{counted_less}
use Rattle.buffer_pool.proofs.Placed.{still_under, under_less, values_set}
use Rattle.buffer_pool.proofs.slots.Slots.take.Goals as goal
use Rattle.buffer_pool.proofs.slots.Slots.take.Goals.{After-take}

-- the slots with a hole in the place
left : (c : After-take) → values_of (set_value_at c.self.inside.slots.entries c.args.place c.take.new.self)
    ≡ set (values_of c.self.inside.slots.entries) c.args.place None
left c =
    values_set c.self.inside.slots.entries c.args.place c.take.new.self
    ∙ ap (set (values_of c.self.inside.slots.entries) c.args.place) c.take.ensures.after

pub invariant_of-self : goal.invariant_of-self
invariant_of-self c =
    let it = c.self.inside in
    let es = it.slots.entries in
    let slots : List (Option Page) = values_of es in
    let some = subst (λ (v : SlotsView). IsSome (get_or v.list c.args.place None)) (sym c.self.view_is) c.requires.taken in
    let few =
    subst (λ (v : SlotsView). length v.list ≤ 2 * length (pages_in v.list) - 1) (sym c.self.view_is) c.requires.holes in (
      still_under es c.args.place c.take.new.self
          (under_less (MAX_PAGES + length es) es c.args.place c.take.new.self some c.take.ensures.after c.self.invariant.0),
      subst (AreCounted (it.count - 1)) (sym (left (goal.at.invariant_of-self c).After-take))
          (counted_less it.count slots c.args.place c.self.invariant.1 some few),
      λ named. under_less MAX_PAGES es c.args.place c.take.new.self some c.take.ensures.after (c.self.invariant.2 named),
    )

pub returns-clause-list : goal.returns-clause-list
returns-clause-list c =
    left (goal.at.returns-clause-list c).After-take
    ∙ ap (λ (v : SlotsView). set v.list c.args.place None) c.self.view_is
