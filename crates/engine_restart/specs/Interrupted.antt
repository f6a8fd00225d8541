-- Restarts that are interrupted, or fail, while they take back what was open.
use Rattle.std.specs.Prelude.{ℕ, ◌+◌, List, length, drop}
use Rattle.std.specs.List.{All, Contains}
use Rattle.copy_coverage.specs.Kept.{IsKeptOf}
use Rattle.log_prefix.specs.Front.{IsLongestFront}
use Rattle.log_records.specs.Log.{Log, lsn_of}
use Rattle.log_records.specs.declared.record.Record.{Record}
use Rattle.log_store.specs.Stores.{FailsBetween, StoreCall, SyncCall, at_a_store, at_the_sync}
use Rattle.log_store.specs.Stores.{records_between}
use Rattle.log_store.specs.WrittenLog.{HoldsLog}
use Rattle.page_core.specs.declared.numbers.TheConstants.{LSN_STEP}
use Rattle.engine_restart.specs.Restart.{FailsUndo, undone_log}

-- what a crash may leave while a log is taken back: all of the log, which was forced, and behind it a
-- first part of undo's records
abbrev pub IsPartlyUndone : Log → Log → Type 0
IsPartlyUndone log left = IsKeptOf (undone_log log) (lsn_of (length log.records)) left

-- what a restart finds where a log was left: this log; or what the restarts before it have made of
-- it, each of which was interrupted
pub data IsFoundFrom : Log → Log → Type 0 where
  at_once : (log : Log) → IsFoundFrom log log
  interrupted : (log left found : Log) → IsPartlyUndone log left → IsFoundFrom left found
      → IsFoundFrom log found

-- ---- a restart that failed

module _ {D : Type 0} {called : StoreCall D} {synced : SyncCall D} {old new : D} where
  -- the records of a log whose store was called in a force that failed, in order: those that were
  -- stored, and the next one, of which the call may have failed
  abbrev pub asked_in : (log : Log) (from to : ℕ) → FailsBetween called synced log from to old new
      → List Record
  asked_in log from to (at_a_store failed next synced) =
      records_between log.records from (to + LSN_STEP)
  asked_in log from to (at_the_sync end reached why more stored fault none) =
      records_between log.records from (end + LSN_STEP)

  -- and in a restart that failed
  abbrev pub asked_of : (log : Log) → FailsUndo called synced log old new → List Record
  asked_of log (forced, fails) =
      asked_in (undone_log log) (lsn_of (length log.records)) forced fails

-- what may be found of a log behind which a device was asked to store these records: the log is
-- still there, and behind it stands no record but those
pub record IsFoundBehind (log : Log) (asked : List Record) (found : Log) : Type 0 where
  pub left : List ℕ
  pub holds : HoldsLog (λ bytes. bytes) log left
  pub front : IsLongestFront left found
  pub only : All (Contains asked) (drop (length log.records) found.records)
