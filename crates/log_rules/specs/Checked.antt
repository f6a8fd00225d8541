-- What a table of the open transactions does not say of a record that may come next.
use Rattle.page_core.specs.Change.{Replaces}
use Rattle.std.specs.Prelude.{◌≡◌, List, None, IsSomeAnd}
use Rattle.log_records.specs.declared.record.Record.{Record}
use Rattle.log_records.specs.declared.record.Record.TheVariants.{Begin, Update, Comp, Commit, Abort}
use Rattle.log_records.specs.declared.record.Record.TheVariants.{End, BeginChkpt, ChkptPages}
use Rattle.log_records.specs.declared.record.Record.TheVariants.{ChkptTxns, EndChkpt, Extend}
use Rattle.log_rules.specs.Checkpoint.{open_checkpoint}
use Rattle.log_rules.specs.Linked.{ArePagesNow, HasOldTxns, MayEnd, MayRecordPages, MayRecordTxn}
use Rattle.log_rules.specs.Linked.{number_in}

-- a Set of an Update names the number that is there
abbrev pub NamesNumber : List Record → Record → Type 0
NamesNumber rs (Update lsn txn prev page slot change) = Replaces change (number_in rs page slot)
NamesNumber rs (Begin lsn txn) = Unit {0}
NamesNumber rs (Comp lsn txn prev undo_next page slot change) = Unit {0}
NamesNumber rs (Commit lsn txn prev) = Unit {0}
NamesNumber rs (Abort lsn txn prev) = Unit {0}
NamesNumber rs (End lsn txn prev) = Unit {0}
NamesNumber rs (BeginChkpt lsn) = Unit {0}
NamesNumber rs (ChkptPages lsn begin pages) = Unit {0}
NamesNumber rs (ChkptTxns lsn begin txn state last undo) = Unit {0}
NamesNumber rs (EndChkpt lsn begin redo) = Unit {0}
NamesNumber rs (Extend lsn pages) = Unit {0}

-- a checkpoint's record goes on with the open checkpoint, or opens one
abbrev pub GoesWithCheckpoint : List Record → Record → Type 0
GoesWithCheckpoint rs (BeginChkpt lsn) = open_checkpoint rs ≡ None
GoesWithCheckpoint rs (ChkptPages lsn begin pages) =
    IsSomeAnd (open_checkpoint rs) (MayRecordPages begin pages) × ArePagesNow rs pages
GoesWithCheckpoint rs (ChkptTxns lsn begin txn state last undo) =
    IsSomeAnd (open_checkpoint rs) (MayRecordTxn begin txn)
GoesWithCheckpoint rs (EndChkpt lsn begin redo) =
    IsSomeAnd (open_checkpoint rs) (λ c. MayEnd begin redo c × HasOldTxns rs c)
GoesWithCheckpoint rs (Begin lsn txn) = Unit {0}
GoesWithCheckpoint rs (Update lsn txn prev page slot change) = Unit {0}
GoesWithCheckpoint rs (Comp lsn txn prev undo_next page slot change) = Unit {0}
GoesWithCheckpoint rs (Commit lsn txn prev) = Unit {0}
GoesWithCheckpoint rs (Abort lsn txn prev) = Unit {0}
GoesWithCheckpoint rs (End lsn txn prev) = Unit {0}
GoesWithCheckpoint rs (Extend lsn pages) = Unit {0}
