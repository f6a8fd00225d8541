-- What a restore from named files gives to files.
use Rattle.std.specs.Prelude.{ℕ, List, Option, map}
use Rattle.media_restore.specs.Files.{Files, Leaves, WritesVolume}
use Rattle.media_restore.specs.FilesLog.{LeavesBoth, WritesBoth}
use Rattle.media_restore.specs.declared.files_fault.RestoreFault.{RestoreFault}
use Rattle.media_restore.specs.declared.with_log_fault.WithLogFault.{WithLogFault}
use Rattle.saved_files.specs.declared.restore_names.RestoreNames.{RestoreNames}
use Rattle.saved_files.specs.PutBoth.{BothWriting}
use Rattle.saved_files.specs.PutFault.{Writing}

-- the bytes of the files of these names
abbrev pub files_by : (List ℕ → Option (List ℕ)) → RestoreNames → Files
files_by bytes names = record {
  log = bytes names.log.now;
  master = bytes names.master.now;
  archives = map (λ name. bytes name.now) names.archives.now;
}

-- the volume goes out
abbrev pub WritesVolumeOf : Files → Writing
WritesVolumeOf files old new = WritesVolume files old new

abbrev pub LeavesVolume : Files → RestoreFault → Writing
LeavesVolume files fault old new = Leaves files old new fault

-- the log after undo goes out, and its volume to a writer that has this before and after
abbrev pub WritesLog : Files → Option (List ℕ) → Option (List ℕ) → Writing
WritesLog files volume volume_after old new = WritesBoth files volume volume_after old new

abbrev pub LeavesLog : Files → Option (List ℕ) → Option (List ℕ) → WithLogFault → Writing
LeavesLog files volume volume_after fault old new = LeavesBoth files volume volume_after old new fault

-- both go out to files: the log is the first one, and the volume the second
abbrev pub WritesLogFirst : Files → BothWriting
WritesLogFirst files log_old log_new old new = WritesBoth files old new log_old log_new

abbrev pub LeavesLogFirst : Files → WithLogFault → BothWriting
LeavesLogFirst files fault log_old log_new old new =
    LeavesBoth files old new log_old log_new fault
