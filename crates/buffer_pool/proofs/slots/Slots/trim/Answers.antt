use Rattle.std.proofs.Common.{subst}
use Rattle.std.specs.Map.{values_of}
use Rattle.page_core.specs.declared.page.TheConstants.{MAX_PAGES}
use Rattle.buffer_pool.specs.Slots.{IsTrimmed, SlotsView}
use Rattle.buffer_pool.proofs.Holes.{counted_trimmed}
use Rattle.buffer_pool.proofs.Placed.{trimmed, under_front, under_named}
use Rattle.buffer_pool.proofs.slots.Slots.trim.Goals as goal
use Rattle.buffer_pool.proofs.slots.Slots.trim.Goals.{After-pop}

-- the slots that are left
left : (c : After-pop) → IsTrimmed (values_of c.self.inside.slots.entries) (values_of c.pop.new.self.entries)
left c =
    trimmed c.self.inside.slots.entries c.pop.new.self.entries c.pop.result c.pop.ensures.entries
    (c.has_hole_last.ensures.0 c.if-has_hole_last.true)

pub invariant_of-self : goal.invariant_of-self
invariant_of-self c =
    let it = c.self.inside in
    let es = it.slots.entries in
    let less = c.pop.new.self.entries in
    let named = under_front MAX_PAGES es less c.pop.result c.pop.ensures.entries (c.self.invariant.2 c.if-self.true) in (
      under_named less named,
      counted_trimmed it.count (values_of es) (values_of less) (left (goal.at.invariant_of-self c).After-pop) c.self.invariant.1,
      λ _. named,
    )

pub returns-then-has_hole_last-clause-list : goal.returns-then-has_hole_last-clause-list
returns-then-has_hole_last-clause-list c =
    subst (λ (v : SlotsView). IsTrimmed v.list (values_of c.pop.new.self.entries)) c.self.view_is
    (left (goal.at.returns-then-has_hole_last-clause-list c).After-pop)
