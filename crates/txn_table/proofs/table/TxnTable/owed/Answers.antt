use Rattle.txn_table.proofs.Owed.{count_is}
use Rattle.txn_table.proofs.Viewed.{table_is}
use Rattle.txn_table.proofs.table.TxnTable.owed.Goals as goal

pub returns : goal.returns
returns c rs of = count_is c.self.inside.open.table c.args.self.now.table c.self.inside.owed rs (table_is c.self.view_is) c.self.invariant of
