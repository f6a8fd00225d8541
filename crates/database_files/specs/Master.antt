-- The master record, as it is found.
use Rattle.std.specs.Prelude.{ℕ, ◌≡◌, ◌≢◌, ◌↔◌, ◌≤◌, ◌⊎◌, Bool, IfSome, IsSomeAnd, IsTrue, List}
use Rattle.std.specs.Prelude.{None, Option, Some, codes, false, true, slice_get}
use Rattle.fuzzy_ckpt.specs.LogCheckpoints.{IsLastPoint}
use Rattle.fuzzy_ckpt.specs.declared.point.Point.{Point}
use Rattle.log_records.specs.Log.{Log}
use Rattle.log_records.specs.declared.record.Record.{Record}
use Rattle.log_records.specs.declared.record.Record.TheVariants.{EndChkpt}
use Rattle.log_store.specs.declared.master.Master.{Master}
use Rattle.saved_files.specs.Folder.{Entries, absent}
use Rattle.database_files.specs.Kept.{count_below}
use Rattle.database_files.specs.declared.found_master.FoundMaster.{FoundMaster}
use Rattle.database_files.specs.declared.found_master.FoundMaster.TheVariants as found

-- nothing stands there
abbrev pub is_absent : FoundMaster → Bool
is_absent found.Absent = true
is_absent (found.Spelled master) = false
is_absent found.Wrong = false

-- the one that stands there, if one is spelled
abbrev pub spelled : FoundMaster → Option Master
spelled found.Absent = None
spelled (found.Spelled master) = Some master
spelled found.Wrong = None

-- a master record names a checkpoint; or there is neither
abbrev pub NamesPoint : Option Master → Option Point → Type 0
NamesPoint None None = Unit {0}
NamesPoint None (Some point) = ⊥
NamesPoint (Some master) None = ⊥
NamesPoint (Some master) (Some point) = (master.begin ≡ point.begin) × (master.end ≡ point.end)

-- the checkpoint whose master record is to be put: none where the master record names the last
-- complete one of the log, and else that one
pub record IsUnnamed (log : Log) (master : Option Master) (unnamed : Option Point) : Type 0 where
  pub last : Option Point
  pub is_last : IsLastPoint log log.records last
  pub either : (NamesPoint master last × (unnamed ≡ None)) ⊎ ((¬ NamesPoint master last) × (unnamed ≡ last))

-- a record ends a checkpoint that began there
abbrev pub IsEndFrom : ℕ → Record → Type 0
IsEndFrom begin (EndChkpt lsn from redo) = from ≡ begin
IsEndFrom begin other = ⊥

-- among these records the end of the checkpoint stands that a master record names
abbrev pub HasCheckpointOf : List Record → Master → Type 0
HasCheckpointOf records master = (64 ≤ master.end)
    × IsSomeAnd (slice_get records (count_below master.end)) (IsEndFrom master.begin)

-- nothing stands as the master record, or that of a checkpoint among these records
abbrev pub IsOfRecords : List Record → FoundMaster → Type 0
IsOfRecords records found.Absent = Unit {0}
IsOfRecords records (found.Spelled master) = HasCheckpointOf records master
IsOfRecords records found.Wrong = ⊥

-- it is told whether something stands as the master record, which spells this one if it spells one,
-- that names no checkpoint of this log
abbrev pub TellsWrong : Option Entries → Log → Option Master → Bool → Type 0
TellsWrong entries log master is_wrong = IfSome entries (λ there. IsTrue is_wrong
    ↔ ((there (codes "master") ≢ absent) × ¬ IsSomeAnd master (HasCheckpointOf log.records)))
