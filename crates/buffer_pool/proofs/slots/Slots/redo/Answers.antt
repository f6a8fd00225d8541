use Rattle.std.proofs.Common.{◌≡◌, ◌∙◌, ◌+◌, ap, arith, get_or, length, map, subst, sym}
use Rattle.std.specs.Map.{keys_of, values_of}
use Rattle.std.specs.Prelude.{None, Some}
use Rattle.std.proofs.lemmas.Map.Entries.{length-values_of}
use Rattle.std.proofs.lemmas.Option.{get_or_from_slice_get}
use Rattle.indexmap.specs.IndexMap.{set_value_at}
use Rattle.page_core.specs.declared.page.TheConstants.{MAX_PAGES}
use Rattle.buffer_pool.specs.Slots.{AreCounted, SlotsView}
use Rattle.buffer_pool.proofs.Placed.{counted_redone, no_place, only_there, redone, redone_at, redone_none, sought, still_under}
use Rattle.buffer_pool.proofs.Placed.{under_redone, values_set}
use Rattle.buffer_pool.proofs.slots.Slots.redo.Goals as goal
use Rattle.buffer_pool.proofs.slots.Slots.redo.Goals.{After-redo_slot}

pub returns-in_default-clause-list : goal.returns-in_default-clause-list
returns-in_default-clause-list c =
    let es = c.self.inside.slots.entries in
    subst (λ (v : SlotsView). v.list ≡ map (redone c.args.next.now) v.list) c.self.view_is
    (redone_none c.args.next.now c.args.number (values_of es) c.requires
    (no_place es c.args.number c.self.invariant.0 c.get_index_of.ensures.unique
    (sought (keys_of es) c.number.inside.0 c.args.number c.get_index_of.result None c.number.view_is
    c.get_index_of.ensures.index c.in_default.is)))

-- the slot after it
after : (c : After-redo_slot) → c.redo_slot.new.slot
    ≡ redone c.args.next.now (get_or (values_of c.self.inside.slots.entries) c.in-Some.place None)
after c =
    c.redo_slot.ensures
    ∙ ap (redone c.args.next.now)
    (sym (get_or_from_slice_get (values_of c.self.inside.slots.entries) c.in-Some.place c.index_mut.result.now None
    c.index_mut.ensures.value))

-- and all slots
slots : (c : After-redo_slot) → values_of (set_value_at c.self.inside.slots.entries c.in-Some.place c.redo_slot.new.slot)
    ≡ map (redone c.args.next.now) (values_of c.self.inside.slots.entries)
slots c =
    let es = c.self.inside.slots.entries in
    let within = c.in-Some.ensures.within in
    values_set es c.in-Some.place c.redo_slot.new.slot
    ∙ redone_at c.args.next.now c.args.number c.in-Some.place (values_of es) c.redo_slot.new.slot c.requires
    (only_there es c.args.number c.self.invariant.0 c.get_index_of.ensures.unique c.in-Some.place
    (sought (keys_of es) c.number.inside.0 c.args.number c.get_index_of.result (Some c.in-Some.place) c.number.view_is
    c.get_index_of.ensures.index c.in-Some.is))
    (omega (arith, within, length-values_of es)) (after c)

pub returns-in-Some-clause-list : goal.returns-in-Some-clause-list
returns-in-Some-clause-list c =
    slots (goal.at.returns-in-Some-clause-list c).After-redo_slot
    ∙ ap (λ (v : SlotsView). map (redone c.args.next.now) v.list) c.self.view_is

pub invariant_of-self : goal.invariant_of-self
invariant_of-self c =
    let it = c.self.inside in
    let next = c.args.next.now in
    let es = it.slots.entries in
    let done = (goal.at.invariant_of-self c).After-redo_slot in (
      still_under es c.in-Some.place c.redo_slot.new.slot
          (under_redone (MAX_PAGES + length es) next es c.in-Some.place c.redo_slot.new.slot c.in-Some.ensures.within
          (after done) c.self.invariant.0),
      subst (AreCounted it.count) (sym (slots done)) (counted_redone next it.count (values_of es) c.self.invariant.1),
      λ named.
          under_redone MAX_PAGES next es c.in-Some.place c.redo_slot.new.slot c.in-Some.ensures.within (after done)
          (c.self.invariant.2 named),
    )
