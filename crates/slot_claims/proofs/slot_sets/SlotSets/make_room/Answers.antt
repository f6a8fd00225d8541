use Rattle.std.proofs.Common.{arith, refl}
use Rattle.slot_claims.proofs.AdderSets.{set_found, set_of_other, set_past}
use Rattle.slot_claims.proofs.slot_sets.SlotSets.make_room.Goals as goal
use Rattle.slot_claims.proofs.slot_sets.SlotSets.make_room.Goals.{else-place-len-via-then-place-len+else-index-slot}
use Rattle.slot_claims.proofs.slot_sets.SlotSets.make_room.Goals.{else-place-len-via-else-place-len}

pub returns-then-index-slot-clause-room : goal.returns-then-index-slot-clause-room
returns-then-index-slot-clause-room c =
    set_found c.args.self.now c.args.slot _ c.len.result c.index.result.now refl c.len.ensures c.if-place-len.true
    c.index.ensures c.if-index-slot.true

pub add-requires-clause-absent : goal.add-requires-clause-absent
add-requires-clause-absent c =
    elim c.else-place-len.branch [
      | else-place-len-via-then-place-len+else-index-slot w ↦
          set_of_other c.args.self.now c.args.slot w.index.result.now (omega (arith, w.if-place-len.true, c.len.ensures))
          w.index.ensures w.if-index-slot.false
      | else-place-len-via-else-place-len w ↦
          set_past c.args.self.now c.args.slot (omega (arith, w.if-place-len.false, c.len.ensures))
    ]
