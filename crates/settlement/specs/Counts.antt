-- How many records of transactions a log has, and how many of them receipts speak of.
use Rattle.std.specs.Prelude.{ℕ, Bool, true, false, not, List, count_by}
use Rattle.log_records.specs.declared.record.Record.{Record}
use Rattle.log_records.specs.declared.record.Record.TheVariants as log
use Rattle.settlement.specs.declared.receipt.Receipt.{Receipt}
use Rattle.settlement.specs.declared.receipt.Receipt.TheVariants.{Changed}
use Rattle.settlement.specs.Receipt.{is_read}

abbrev pub is_update : Record → Bool
is_update (log.Update lsn txn prev page slot change) = true
is_update (log.Begin lsn txn) = false
is_update (log.Comp lsn txn prev undo_next page slot change) = false
is_update (log.Commit lsn txn prev) = false
is_update (log.Abort lsn txn prev) = false
is_update (log.End lsn txn prev) = false
is_update (log.BeginChkpt lsn) = false
is_update (log.ChkptPages lsn begin pages) = false
is_update (log.ChkptTxns lsn begin txn state last undo_next) = false
is_update (log.EndChkpt lsn begin redo) = false
is_update (log.Extend lsn pages) = false

-- how many changes were made, those that were taken back among them
abbrev pub updates_in : List Record → ℕ
updates_in rs = count_by is_update rs

-- a transaction appended it: it is no record of a checkpoint, and no growth
abbrev pub is_of_txn : Record → Bool
is_of_txn (log.Begin lsn txn) = true
is_of_txn (log.Update lsn txn prev page slot change) = true
is_of_txn (log.Comp lsn txn prev undo_next page slot change) = true
is_of_txn (log.Commit lsn txn prev) = true
is_of_txn (log.Abort lsn txn prev) = true
is_of_txn (log.End lsn txn prev) = true
is_of_txn (log.BeginChkpt lsn) = false
is_of_txn (log.ChkptPages lsn begin pages) = false
is_of_txn (log.ChkptTxns lsn begin txn state last undo_next) = false
is_of_txn (log.EndChkpt lsn begin redo) = false
is_of_txn (log.Extend lsn pages) = false

-- how many records transactions have appended
abbrev pub txn_records_in : List Record → ℕ
txn_records_in rs = count_by is_of_txn rs

-- how many of the receipts are of records: all but those of reads
abbrev pub written_in : List Receipt → ℕ
written_in receipts = count_by (λ x. not (is_read x)) receipts

abbrev pub is_change : Receipt → Bool
is_change (Changed it) = true
is_change other = false

-- how many of the receipts are of changes
abbrev pub changes_in : List Receipt → ℕ
changes_in receipts = count_by is_change receipts
