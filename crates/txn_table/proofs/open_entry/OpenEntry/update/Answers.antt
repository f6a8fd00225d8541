use Rattle.txn_table.proofs.Rooms.{spare_and_room}
use Rattle.txn_table.proofs.open_entry.OpenEntry.update.Goals as goal

pub push_pending-may-requires-clause-spare : goal.push_pending-may-requires-clause-spare
push_pending-may-requires-clause-spare c =
    (spare_and_room c.args.claims.now c.args.self.now c.args.change.page c.args.change.slot c.requires.room).0

pub push_pending-may-requires-clause-room : goal.push_pending-may-requires-clause-room
push_pending-may-requires-clause-room c =
    (spare_and_room c.args.claims.now c.args.self.now c.args.change.page c.args.change.slot c.requires.room).1
