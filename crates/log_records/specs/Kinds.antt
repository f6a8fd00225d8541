-- The kinds of record that most of a log is made of.
use Rattle.log_records.specs.declared.record.Record.{Record}
use Rattle.log_records.specs.declared.record.Record.TheVariants.{Begin, Update, Comp, Commit, Abort}
use Rattle.log_records.specs.declared.record.Record.TheVariants.{End, BeginChkpt, ChkptPages}
use Rattle.log_records.specs.declared.record.Record.TheVariants.{ChkptTxns, EndChkpt, Extend}

-- a change that its transaction may still undo
abbrev pub IsUpdate : Record → Type 0
IsUpdate (Update lsn txn prev page slot change) = Unit {0}
IsUpdate (Begin lsn txn) = ⊥
IsUpdate (Comp lsn txn prev undo_next page slot change) = ⊥
IsUpdate (Commit lsn txn prev) = ⊥
IsUpdate (Abort lsn txn prev) = ⊥
IsUpdate (End lsn txn prev) = ⊥
IsUpdate (BeginChkpt lsn) = ⊥
IsUpdate (ChkptPages lsn begin pages) = ⊥
IsUpdate (ChkptTxns lsn begin txn state last undo_next) = ⊥
IsUpdate (EndChkpt lsn begin redo) = ⊥
IsUpdate (Extend lsn pages) = ⊥

-- a record that only says what its transaction does next
abbrev pub IsStep : Record → Type 0
IsStep (Begin lsn txn) = Unit {0}
IsStep (Commit lsn txn prev) = Unit {0}
IsStep (Abort lsn txn prev) = Unit {0}
IsStep (End lsn txn prev) = Unit {0}
IsStep (Update lsn txn prev page slot change) = ⊥
IsStep (Comp lsn txn prev undo_next page slot change) = ⊥
IsStep (BeginChkpt lsn) = ⊥
IsStep (ChkptPages lsn begin pages) = ⊥
IsStep (ChkptTxns lsn begin txn state last undo_next) = ⊥
IsStep (EndChkpt lsn begin redo) = ⊥
IsStep (Extend lsn pages) = ⊥
