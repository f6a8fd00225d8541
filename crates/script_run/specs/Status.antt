-- The status that the program ends with.
use Rattle.std.specs.Prelude.{ℕ}
use Rattle.copy_audit.specs.declared.unsound.Unsound as unsound
use Rattle.copy_audit.specs.declared.unsound.Unsound.TheVariants as audit
use Rattle.loser_undo.specs.declared.fault.UndoFault.TheVariants as undo
use Rattle.media_restore.specs.declared.fault.LoadFault.TheVariants as load
use Rattle.media_restore.specs.declared.fault.Refused.{Refused}
use Rattle.media_restore.specs.declared.fault.Refused.TheVariants.{Load, Undo}
use Rattle.media_restore.specs.declared.files_fault.RestoreFault.{RestoreFault}
use Rattle.media_restore.specs.declared.files_fault.RestoreFault.TheVariants as files
use Rattle.script_run.specs.declared.finish_fault.FinishFault.{FinishFault}
use Rattle.script_run.specs.declared.finish_fault.FinishFault.TheVariants as finish

-- 1 where the log is full, the archives do not follow one another, or one of them reaches past the
-- log's end, and 2 at any other fault
abbrev pub status_of_restore : RestoreFault → ℕ
status_of_restore files.LogFull = 1
status_of_restore (files.ChainBroken copy) = 1
status_of_restore files.RedoBeyondLog = 1
status_of_restore (files.PageBeyondLog page) = 1
status_of_restore fault = 2

-- 1 where the archives do not follow one another, one of them reaches past the log's end, or a page
-- is not sound, and 2 at any other fault
abbrev pub status_of_audit : unsound.Unsound → ℕ
status_of_audit (audit.ChainBroken copy) = 1
status_of_audit audit.RedoBeyondLog = 1
status_of_audit (audit.PageBeyondLog page) = 1
status_of_audit (audit.Unsound copy page) = 1
status_of_audit fault = 2

-- 1 where the copy or the cut is refused, or the log is full, and 2 where memory was wanting
abbrev pub status_of_refused : Refused → ℕ
status_of_refused (Load load.NoCopy) = 1
status_of_refused (Load load.CopyNotComplete) = 1
status_of_refused (Load (load.CutTooShort forced)) = 1
status_of_refused (Undo undo.LogFull) = 1
status_of_refused other = 2

-- that of its refusal where a script's last restore is refused, and 2 at any other fault
abbrev pub status_of_finish : FinishFault → ℕ
status_of_finish (finish.Refused why) = status_of_refused why
status_of_finish fault = 2
