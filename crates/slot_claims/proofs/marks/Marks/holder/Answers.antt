use Rattle.std.proofs.Common.{◌∙◌, sym, arith}
use Rattle.slot_claims.specs.Marks.{holder_at}
use Rattle.slot_claims.proofs.SlotMarks.{slot_behind, slot_past, slot_there}
use Rattle.slot_claims.proofs.marks.Marks.holder.Goals as goal
use Rattle.slot_claims.proofs.marks.Marks.holder.Goals.{else-slot-lt-SLOTS-via-then-slot-lt-SLOTS+else-place-len}
use Rattle.slot_claims.proofs.marks.Marks.holder.Goals.{else-slot-lt-SLOTS-via-else-slot-lt-SLOTS}

pub returns-then-place-len-clause-holder : goal.returns-then-place-len-clause-holder
unfolding holder_at
returns-then-place-len-clause-holder c =
    let marks = c.args.self.now.marks in
    let same = c.slot.view_is in
    c.holder.ensures.holder
    ∙ slot_there marks.items c.args.page c.args.slot c.place_of-place.result c.index.result.now (omega arith)
    c.place_of-place.ensures (omega (arith, marks.ok.0)) c.index.ensures

pub returns-else-slot-lt-SLOTS-clause-holder : goal.returns-else-slot-lt-SLOTS-clause-holder
unfolding holder_at
returns-else-slot-lt-SLOTS-clause-holder c =
    let marks = c.args.self.now.marks in
    let same = c.slot.view_is in
    elim c.else-slot-lt-SLOTS.branch [
      | else-slot-lt-SLOTS-via-then-slot-lt-SLOTS+else-place-len w ↦
          sym (slot_behind marks.items c.args.page c.args.slot (omega (arith, marks.ok.0)))
      | else-slot-lt-SLOTS-via-else-slot-lt-SLOTS w ↦
          sym (slot_past marks.items c.args.page c.args.slot (omega arith))
    ]
