use Rattle.std.proofs.Common.{sym, subst}
use Rattle.log_records.specs.declared.record.Record.{Record}
use Rattle.txn_table.specs.OpenTransactions.{NotesIfMay}
use Rattle.txn_table.proofs.open_transactions.OpenTransactions.note_if_may.Goals as goal

pub returns-in-Commit-clause-ok : goal.returns-in-Commit-clause-ok
returns-in-Commit-clause-ok c =
    subst (λ (r : Record). NotesIfMay c.args.self.now.table c.commit.new.self.table r c.commit.result) (sym c.in-Commit.is)
    (c.commit.ensures c.in-Commit.lsn)

pub returns-in-End-clause-ok : goal.returns-in-End-clause-ok
returns-in-End-clause-ok c =
    subst (λ (r : Record). NotesIfMay c.args.self.now.table c.end.new.self.table r c.end.result) (sym c.in-End.is)
    (c.end.ensures c.in-End.lsn)
