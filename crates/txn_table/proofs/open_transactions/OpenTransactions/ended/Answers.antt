use Rattle.std.proofs.Common.{subst, sym}
use Rattle.txn_table.specs.OpenTransactions.{Tracks}
use Rattle.txn_table.proofs.Tracked.{tracks-nil}
use Rattle.txn_table.proofs.open_transactions.OpenTransactions.ended.Goals as goal

pub invariant_of-result : goal.invariant_of-result
invariant_of-result c = record {
  in_rows = c.new.ensures.sound;
  tracks = subst (λ xs. Tracks c.args.begun c.new-2.result xs) (sym c.new.ensures.empty)
      (tracks-nil c.args.begun c.new-2.result c.new-2.ensures);
}
