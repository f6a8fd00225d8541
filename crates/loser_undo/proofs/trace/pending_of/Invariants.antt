use Rattle.std.specs.Prelude.{reverse}
use Rattle.txn_table.specs.OpenEntry.{changes_of}
use Rattle.log_rules.specs.Transactions.{first_lsn, pending}
use Rattle.loser_undo.proofs.Traced.{IsFound}
use Rattle.loser_undo.proofs.trace.pending_of.Given as goal

abbrev pub invariant-back : goal.invariant-back
invariant-back l = IsFound l.log.records l.one.txn (first_lsn l.log.records l.one.txn) l.at (changes_of l.found.items)
    (reverse (pending l.log.records l.one.txn))

abbrev pub decreases-back : goal.decreases-back
decreases-back l = l.at
