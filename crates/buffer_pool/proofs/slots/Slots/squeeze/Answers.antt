use Rattle.std.proofs.Common.{◌≡◌, ◌∙◌, ap, map, rules, subst, sym}
use Rattle.std.specs.Map.{values_of}
use Rattle.std.specs.Prelude.{Some, is_some}
use Rattle.indexmap.proofs.CallerLemmas.{filter-RetainsPairs}
use Rattle.buffer_pool.specs.Slots.{AreCounted, ArePageNumbers, AreUnderNumbers, SlotsView, pages_in}
use Rattle.buffer_pool.proofs.Holes.{counted_squeezed}
use Rattle.buffer_pool.proofs.Placed.{Entry, kept, kept_slots, kept_under, under_kept}
use Rattle.buffer_pool.proofs.slots.Slots.squeeze.Goals as goal
use Rattle.buffer_pool.proofs.slots.Slots.squeeze.Goals.{After-retain}

-- the entries that are left
left : (c : After-retain) → c.retain.new.self.entries ≡ kept c.self.inside.slots.entries
left c =
    filter-RetainsPairs _ (λ (e : Entry). is_some e.1) _ (λ k v b w g called. search rules) _ _ c.retain.ensures.filtered

slots_left : (c : After-retain) → values_of c.retain.new.self.entries ≡ map Some (pages_in (values_of c.self.inside.slots.entries))
slots_left c = ap values_of (left c) ∙ kept_slots c.self.inside.slots.entries

pub invariant_of-self : goal.invariant_of-self
invariant_of-self c =
    let it = c.self.inside in
    let after = (goal.at.invariant_of-self c).After-retain in (
      subst AreUnderNumbers (sym (left after)) (under_kept it.slots.entries c.self.invariant.0),
      subst (AreCounted it.count) (sym (slots_left after)) (counted_squeezed it.count (values_of it.slots.entries) c.self.invariant.1),
      λ _. subst ArePageNumbers (sym (left after)) (kept_under it.slots.entries c.self.invariant.0),
    )

pub returns-clause-list : goal.returns-clause-list
returns-clause-list c =
    slots_left (goal.at.returns-clause-list c).After-retain
    ∙ ap (λ (v : SlotsView). map Some (pages_in v.list)) c.self.view_is
