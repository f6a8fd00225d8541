use Rattle.std.proofs.Common.{◌∙◌, arith}
use Rattle.std.proofs.Math.Nat.{min-eq_left}
use Rattle.txn_table.proofs.table.TxnTableFromOpenTransactions.from.Goals as goal

pub invariant_of-result : goal.invariant_of-result
invariant_of-result c fits = c.owed-owed.ensures ∙ min-eq_left (omega (arith, fits))
