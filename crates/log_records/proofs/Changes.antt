-- The changes of valid records.
use Rattle.std.proofs.Common.{ℕ, ◌<◌, ◌^◌, arith}
use Rattle.std.specs.Prelude.{IfSome}
use Rattle.page_core.specs.declared.change.Change.{Change}
use Rattle.page_core.specs.declared.change.Change.TheVariants.{Set, Add}
use Rattle.page_core.specs.Change.{changed}
use Rattle.log_records.specs.declared.record.Record.{Record}
use Rattle.log_records.specs.declared.record.Record.TheVariants.{Begin, Update, Comp, Commit, Abort, End, BeginChkpt}
use Rattle.log_records.specs.declared.record.Record.TheVariants.{ChkptPages, ChkptTxns, EndChkpt, Extend}
use Rattle.log_records.specs.Log.{IsWithin}
use Rattle.log_records.specs.Record.{IsChange, IsLsn, IsPageChange, IsRecord, change_of, own_lsn}

pub changed_fits : (change : Change) (number : ℕ) → IsChange change → changed change number < 2 ^ 64
changed_fits (Set before after) number valid = valid.1
changed_fits (Add amount) number valid = omega arith

-- the change of a valid record is one that a volume may have
pub valid_change : (r : Record) → IsRecord r → IsLsn (own_lsn r) × IfSome (change_of r) IsPageChange
valid_change (Begin lsn txn) valid = (valid.0, tt)
valid_change (Update lsn txn prev page slot change) valid = (valid.0, valid.3)
valid_change (Comp lsn txn prev undo_next page slot change) valid = (valid.0, valid.3)
valid_change (Commit lsn txn prev) valid = (valid.0, tt)
valid_change (Abort lsn txn prev) valid = (valid.0, tt)
valid_change (End lsn txn prev) valid = (valid.0, tt)
valid_change (BeginChkpt lsn) valid = (valid, tt)
valid_change (ChkptPages lsn begin pages) valid = (valid.0, tt)
valid_change (ChkptTxns lsn begin txn state last undo_next) valid = (valid.0, tt)
valid_change (EndChkpt lsn begin redo) valid = (valid.0, tt)
valid_change (Extend lsn pages) valid = (valid.0, tt)

-- what a record changes is within what it names
pub change_within : (pages : ℕ) (r : Record) → IsWithin pages r → IfSome (change_of r) (λ c. c.page < pages)
change_within pages (Begin lsn txn) within = tt
change_within pages (Update lsn txn prev page slot change) within = within
change_within pages (Comp lsn txn prev undo_next page slot change) within = within
change_within pages (Commit lsn txn prev) within = tt
change_within pages (Abort lsn txn prev) within = tt
change_within pages (End lsn txn prev) within = tt
change_within pages (BeginChkpt lsn) within = tt
change_within pages (ChkptPages lsn begin entries) within = tt
change_within pages (ChkptTxns lsn begin txn state last undo_next) within = tt
change_within pages (EndChkpt lsn begin redo) within = tt
change_within pages (Extend lsn count) within = tt
