use Rattle.slot_claims.specs.declared.holder_byte.Holder.TheVariants.{One}
use Rattle.slot_claims.specs.Adders.{rows_at}
use Rattle.slot_claims.specs.Claims.{hold_with, no_hold}
use Rattle.slot_claims.proofs.Rooms.{room_marked}
use Rattle.slot_claims.proofs.Taken.{free-one, from_one, of_one, same_rows, taken}
use Rattle.slot_claims.proofs.claims.Claims.keep.Goals as goal

pub put-requires-clause-room : goal.put-requires-clause-room
put-requires-clause-room c =
    room_marked c.args.self.now c.args.page c.args.slot c.args.row c.requires.room

pub returns : goal.returns
returns c =
    let before = c.args.self.now in
    let page = c.args.page in
    let slot = c.args.slot in
    let row = c.args.row in
    let there = rows_at before.adders page slot in
    rw c.by.ensures
    (taken before (record { marks = c.put.new.self; adders = before.adders }) page slot row c.args.kind
    (hold_with no_hold c.args.held) (One row c.args.held) (One row c.stronger-kind.result) there c.requires.held
    (free-one row c.args.held there c.args.kind) (of_one row c.args.held there) c.put.ensures
    (same_rows before page slot)
    (λ other within. from_one row c.args.held c.args.kind c.stronger-kind.result there c.stronger-kind.ensures other))
