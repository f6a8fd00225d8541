-- A folder that is made ready before its log's device is called.
use Rattle.std.specs.Prelude.{◌≡◌, ◌≢◌, ◌⊎◌, None, Option}
use Rattle.engine_restart.specs.declared.log_file.FoundLog.{FoundLog}
use Rattle.saved_files.specs.Folder.{Entries}
use Rattle.database_files.specs.Closed.{IsWithoutNote}
use Rattle.database_files.specs.LeftOut.{IsWorthKeeping, WasKept, behind}

-- what stood behind a log has a file of its own, if it is worth that, and no note of a closing stands
-- in the folder
pub record IsReady {D : Type 0} (found : FoundLog D) (entries : Option Entries) : Type 0 where
  pub kept : found.front.cut ≢ None → IsWorthKeeping (behind found) → WasKept (behind found) entries
  pub note : IsWithoutNote entries

-- nothing was asked of a log's device, or the folder was made ready before
abbrev pub IsCalledOnceReady : {D : Type 0} → FoundLog D → D → Option Entries → Type 0
IsCalledOnceReady found device entries = (device ≡ found.device) ⊎ IsReady found entries
