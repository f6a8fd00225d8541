use Rattle.std.proofs.Common.{arith}
use Rattle.std.proofs.lemmas.Result.{on_err_weaker, on_ok_weaker}
use Rattle.slot_claims.proofs.Public.{on_err_from}
use Rattle.txn_table.proofs.Rooms.{has_both, no_claim_room, no_spare}
use Rattle.txn_table.proofs.open_entry.OpenEntry.make_room.Goals as goal

pub returns-in_err-reserve-clause-needed : goal.returns-in_err-reserve-clause-needed
returns-in_err-reserve-clause-needed c =
    on_err_from c.from_residual.result _
    (no_spare c.args.claims.now c.args.self.now c.args.page c.args.slot (omega (arith, c.in_err-reserve.ensures.full)))

pub returns-clause-room : goal.returns-clause-room
returns-clause-room c =
    let e = record c.args.self.now { pending = c.reserve.new.self } in
    on_ok_weaker c.make_room.result
    (has_both c.make_room.new.self e c.args.page c.args.slot (omega (arith, c.in_ok-reserve.ensures.ok)))
    c.make_room.ensures.room

pub returns-clause-needed : goal.returns-clause-needed
returns-clause-needed c =
    on_err_weaker c.make_room.result (no_claim_room c.args.claims.now c.args.self.now c.args.page c.args.slot)
    c.make_room.ensures.needed
