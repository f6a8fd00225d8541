-- A log that is taken up where an engine was lost, and what is there then.
use Rattle.std.specs.Prelude.{ℕ, ◌≡◌, ◌<◌, ◌≤◌, Bool, false, List, length}
use Rattle.page_core.specs.FaultName.{fault_line}
use Rattle.page_core.specs.declared.fault_name.FaultName.TheVariants as name
use Rattle.page_core.specs.declared.page.Page.{Page}
use Rattle.log_records.specs.Image.{redo_all}
use Rattle.log_records.specs.Log.{Log, lsn_of, page_count, with_next}
use Rattle.log_records.specs.declared.record.Record.{Record}
use Rattle.log_rules.specs.Transactions.{begun}
use Rattle.log_store.specs.Stores.{FailsBetween, ForcesBetween, StoreCall, SyncCall}
use Rattle.log_store.specs.WrittenLog.{HoldsLog, WrittenLog}
use Rattle.loser_undo.specs.Undo.{after_undo}
use Rattle.copy_vault.specs.Vault.{CopyState}
use Rattle.fuzzy_ckpt.specs.declared.log_checkpoints.LogCheckpoints.{LogCheckpoints}
use Rattle.fuzzy_ckpt.specs.LogCheckpoints.{AreCheckpointsOf}
use Rattle.engine_rules.specs.Resumed.{MayResume}
use Rattle.engine_restart.specs.declared.fault.RestartFault.{RestartFault}
use Rattle.engine_restart.specs.declared.fault.RestartFault.TheVariants.{LogFault, LogFull}
use Rattle.engine_restart.specs.declared.fault.RestartFault.TheVariants.{OutOfMemory}

-- the log with the records of undo
abbrev pub undone_log : Log → Log
undone_log log = record log { records = after_undo log.records }

-- a device has all of a log, and all of it lasts
pub record HasLasting {D : Type 0} (bytes : D → List ℕ) (lasting : D → ℕ) (log : Log) (device : D)
    : Type 0 where
  pub holds : HoldsLog bytes log device
  pub lasts : lsn_of (length log.records) ≤ lasting device

-- what a log has on top of another one was stored on its device, each record by one call, and then
-- synced by one; where it has nothing more, the device was not called
abbrev pub ForcesMore : {D : Type 0} → StoreCall D → SyncCall D → Log → Log → D → D → Type 0
ForcesMore called synced log more old new =
    ForcesBetween called synced more.records (lsn_of (length log.records))
    (lsn_of (length more.records)) old new

-- undo's records were stored behind a log in order, each by one call, as a force does it; and a call
-- failed, as a force fails
abbrev pub FailsUndo : {D : Type 0} → StoreCall D → SyncCall D → Log → D → D → Type 0
FailsUndo called synced log old new = (forced : ℕ)
    × FailsBetween called synced (undone_log log) (lsn_of (length log.records)) forced old new

-- these records stand behind the log, unless memory for one was refused; and nothing was forced
-- since the start
pub record HasGrown {D : Type 0} (start : WrittenLog D) (log : Log) (behind : List Record)
    (it : WrittenLog D) (is_refused : Bool) : Type 0 where
  pub log_is : is_refused ≡ false → it.log ≡ with_next log behind
  pub forced_end : it.forced_end ≡ start.forced_end
  pub device : it.device ≡ start.device

-- a log in which no transaction is open, the pages that it makes, and the copies that are at hand
pub record RestartedView : Type 0 where
  pub log : Log
  pub pages : List Page
  pub copies : List CopyState

-- an engine may go on from there
pub record IsRestarted (it : RestartedView) : Type 0 where
  pub may : MayResume it.log it.copies
  pub pages : it.pages ≡ redo_all it.log.records (page_count it.log)

-- and these are the checkpoints of its log, in which so many transactions began
pub record IsReady (it : RestartedView) (known : LogCheckpoints) (count : ℕ) : Type 0 where
  pub restarted : IsRestarted it
  pub checkpoints : AreCheckpointsOf it.log known
  pub begun : count ≡ length (begun it.log.records)

-- why a restart stops, and what it has made of the device: memory ran out, or the log lacks room for
-- undo's records, and the device was not called; or it failed
abbrev pub IsStopped : {D : Type 0} → (D → ℕ) → D → RestartFault → D → Type 0
IsStopped failures old OutOfMemory new = new ≡ old
IsStopped failures old LogFull new = new ≡ old
IsStopped failures old LogFault new = failures old < failures new

-- what is printed of a fault
abbrev pub line_of : RestartFault → List ℕ
line_of OutOfMemory = fault_line name.OutOfMemory
line_of LogFull = fault_line name.LogFull
line_of LogFault = fault_line name.LogFault
