-- How a command ended, and the program's status then.
use Rattle.std.specs.Prelude.{ℕ, ◌≡◌, ◌⊎◌, ◌+◌, List, Option, Some, ⊤}
use Rattle.std.specs.Process.{exit_status}
use Rattle.media_restore.specs.Files.{Files, Leaves, WritesVolume}
use Rattle.media_restore.specs.declared.files_fault.RestoreFault.{RestoreFault}
use Rattle.media_restore.specs.declared.files_fault.RestoreFault.TheVariants.{BadArchive}
use Rattle.media_restore.specs.declared.files_fault.RestoreFault.TheVariants.{CountDiffers, ReadFault}
use Rattle.script_run.specs.Status.{status_of_restore}
use Rattle.file_commands.specs.declared.restore.Ended.{Ended}
use Rattle.file_commands.specs.declared.restore.Ended.TheVariants.{Told, Well}

-- that of a restore: 0 where all went well, and else that with which the fault was told
abbrev pub status_of_end : Ended → ℕ
status_of_end Well = 0
status_of_end (Told status archive) = exit_status status

-- the status of a refusal, or of another fault
abbrev pub IsOfFault : ℕ → Type 0
IsOfFault status = (status ≡ 1) ⊎ (status ≡ 2)

-- all went well, or a fault was told with a status of its own
abbrev pub IsEnd : Ended → Type 0
IsEnd Well = ⊤
IsEnd (Told status archive) = IsOfFault (exit_status status)

-- this fault was told, with its status
abbrev pub IsToldOf : RestoreFault → Ended → Type 0
IsToldOf fault Well = ⊥
IsToldOf fault (Told status archive) = exit_status status ≡ status_of_restore fault

-- a restore of these files to a writer: their volume went out; or a fault was told, with its status,
-- and what it left stands there
abbrev pub IsRestore : Files → Option (List ℕ) → Option (List ℕ) → Ended → Type 0
IsRestore files old new Well = WritesVolume files old new
IsRestore files old new (Told status archive) = (fault : RestoreFault)
    × (exit_status status ≡ status_of_restore fault) × Leaves files old new fault

-- the fault is one of an archive by itself
abbrev pub MaySpoil : RestoreFault → Type 0
MaySpoil ReadFault = ⊤
MaySpoil (BadArchive at) = ⊤
MaySpoil CountDiffers = ⊤
MaySpoil other = ⊥

-- it is one of this archive, counted from the first: the archives stand behind the log and the
-- master record, and the file that was read last is the one of the fault
pub record IsOfArchive (fault : RestoreFault) (read_last : Option ℕ) (archive : ℕ) : Type 0 where
  pub spoils : MaySpoil fault
  pub read : read_last ≡ Some (2 + archive)
