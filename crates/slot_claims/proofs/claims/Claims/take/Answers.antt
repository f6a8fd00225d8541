use Rattle.std.proofs.Common.{sym}
use Rattle.slot_claims.specs.declared.holder_byte.Holder.TheVariants.{Nobody, One}
use Rattle.slot_claims.specs.Adders.{rows_at}
use Rattle.slot_claims.specs.Claims.{no_hold}
use Rattle.slot_claims.proofs.Holds.{hold_in-no_claim}
use Rattle.slot_claims.proofs.Rooms.{room_marked}
use Rattle.slot_claims.proofs.Taken.{free-nobody, from_nobody, same_rows, taken}
use Rattle.slot_claims.proofs.claims.Claims.take.Goals as goal

pub put-requires-clause-room : goal.put-requires-clause-room
put-requires-clause-room c =
    room_marked c.args.self.now c.args.page c.args.slot c.args.row c.requires.room

pub returns-in-Nobody : goal.returns-in-Nobody
returns-in-Nobody c =
    let before = c.args.self.now in
    let page = c.args.page in
    let slot = c.args.slot in
    let row = c.args.row in
    let there = rows_at before.adders page slot in
    rw c.new.ensures
    (taken before (record { marks = c.put.new.self; adders = before.adders }) page slot row c.args.kind no_hold Nobody
    (One row c.args.kind) there (sym c.in-Nobody.ensures.holder) (free-nobody there c.args.kind row)
    (sym (hold_in-no_claim row)) c.put.ensures (same_rows before page slot)
    (λ other within. from_nobody row c.args.kind there other))
