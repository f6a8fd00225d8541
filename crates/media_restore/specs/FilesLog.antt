-- A volume that is restored from files together with its log after undo.
use Rattle.std.specs.Prelude.{ℕ, ◌≡◌, ◌<◌, List, [], length, take, Option}
use Rattle.std.specs.Io.KnownBytes.{Appends, Keeps}
use Rattle.page_core.specs.declared.page.Page.{Page}
use Rattle.page_core.specs.Volume.{SpellsVolume}
use Rattle.log_records.specs.Image.{redo_all}
use Rattle.log_records.specs.Log.{Log, SpellsLog, log_bytes, page_count}
use Rattle.log_rules.specs.Checkpoint.{IsCompleteCheckpoint}
use Rattle.log_rules.specs.Linked.{IsLinked}
use Rattle.log_rules.specs.Transactions.{open_in}
use Rattle.loser_undo.specs.Undo.{after_undo}
use Rattle.media_restore.specs.declared.files_fault.RestoreFault.{RestoreFault}
use Rattle.media_restore.specs.declared.files_fault.RestoreFault.TheVariants.{WriteFault}
use Rattle.media_restore.specs.declared.with_log_fault.WithLogFault.{WithLogFault}
use Rattle.media_restore.specs.declared.with_log_fault.WithLogFault.TheVariants.{OfLog, OfVolume}
use Rattle.media_restore.specs.Files.{AreCovering, Files, IsRestoredFrom, Refused}

-- the log with the records behind its own that undo appends
abbrev pub log_after_undo : Log → Log
log_after_undo log = record log { records = after_undo log.records }

-- these pages are restored from the files, and this is the log that belongs to them: that of the
-- files, with the records that undo appends. No transaction is open at its end, the master record
-- names a complete checkpoint of it too, and where the copies cover the redo point, redo of it alone
-- makes the pages
pub record IsRestoredWithLog (files : Files) (pages : List Page) (after : Log) : Type 0 where
  pub from : IsRestoredFrom files pages
  pub undone : after ≡ log_after_undo from.log
  pub spelled : SpellsLog after (log_bytes after)
  pub linked : IsLinked after.records
  pub closed : open_in after.records ≡ []
  pub complete : IsCompleteCheckpoint after.records from.master.begin from.master.end
  pub redone : AreCovering from.log from.copies → pages ≡ redo_all after.records (page_count after)

-- ---- what is written

-- the bytes of both, and nothing else
pub record WritesBoth (files : Files) (old new log_old log_new : Option (List ℕ)) : Type 0 where
  pub pages : List Page
  pub after : Log
  pub from : IsRestoredWithLog files pages after
  pub volume : List ℕ
  pub spells : SpellsVolume pages volume
  pub written : Appends old new volume
  pub log_written : Appends log_old log_new (log_bytes after)

-- all of the log, and of the volume the first bytes, so many but not all
pub record WritesLogAndPart (files : Files) (old new log_old log_new : Option (List ℕ)) (done : ℕ)
    : Type 0 where
  pub pages : List Page
  pub after : Log
  pub from : IsRestoredWithLog files pages after
  pub volume : List ℕ
  pub spells : SpellsVolume pages volume
  pub within : done < length volume
  pub written : Appends old new (take done volume)
  pub log_written : Appends log_old log_new (log_bytes after)

-- the first bytes of the log, so many but not all
pub record WritesPartOfLog (files : Files) (log_old log_new : Option (List ℕ)) (done : ℕ) : Type 0
  where
    pub pages : List Page
    pub after : Log
    pub from : IsRestoredWithLog files pages after
    pub within : done < length (log_bytes after)
    pub written : Appends log_old log_new (take done (log_bytes after))

-- what stands after a fault of a restore that writes a log too: the log goes out first, so that
-- nothing goes out of the volume before all of the log has
abbrev pub LeavesVolume : Files → Option (List ℕ) → Option (List ℕ) → Option (List ℕ)
    → Option (List ℕ) → RestoreFault → Type 0
LeavesVolume files old new log_old log_new (WriteFault done) =
    WritesLogAndPart files old new log_old log_new done
LeavesVolume files old new log_old log_new fault =
    Keeps old new × (Keeps log_old log_new × Refused files fault)

abbrev pub LeavesBoth : Files → Option (List ℕ) → Option (List ℕ) → Option (List ℕ)
    → Option (List ℕ) → WithLogFault → Type 0
LeavesBoth files old new log_old log_new (OfLog done) =
    Keeps old new × WritesPartOfLog files log_old log_new done
LeavesBoth files old new log_old log_new (OfVolume fault) =
    LeavesVolume files old new log_old log_new fault

-- ---- what is told of a fault

-- a fault counts as that of a restore that writes the volume alone
abbrev pub told_fault : WithLogFault → RestoreFault
told_fault (OfLog done) = WriteFault done
told_fault (OfVolume fault) = fault
