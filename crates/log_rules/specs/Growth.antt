-- Which records may need memory.
use Rattle.log_records.specs.declared.record.Record.{Record}
use Rattle.log_records.specs.declared.record.Record.TheVariants.{Begin, Update, Comp, Commit, Abort}
use Rattle.log_records.specs.declared.record.Record.TheVariants.{End, BeginChkpt, ChkptPages}
use Rattle.log_records.specs.declared.record.Record.TheVariants.{ChkptTxns, EndChkpt, Extend}

-- a record that makes the table of open transactions larger
abbrev pub MayGrow : Record → Type 0
MayGrow (Begin lsn txn) = Unit {0}
MayGrow (Update lsn txn prev page slot change) = Unit {0}
MayGrow (Comp lsn txn prev undo_next page slot change) = ⊥
MayGrow (Commit lsn txn prev) = ⊥
MayGrow (Abort lsn txn prev) = ⊥
MayGrow (End lsn txn prev) = ⊥
MayGrow (BeginChkpt lsn) = ⊥
MayGrow (ChkptPages lsn begin pages) = ⊥
MayGrow (ChkptTxns lsn begin txn state last undo) = ⊥
MayGrow (EndChkpt lsn begin redo) = ⊥
MayGrow (Extend lsn pages) = ⊥
