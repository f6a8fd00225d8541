-- Of what a fault tells.
use Rattle.std.specs.Prelude.{◌==◌, if◌then◌else◌}
use Rattle.copy_audit.specs.declared.unsound.Unsound as unsound
use Rattle.copy_audit.specs.declared.unsound.Unsound.TheVariants as audit
use Rattle.media_restore.specs.declared.files_fault.RestoreFault.{RestoreFault}
use Rattle.media_restore.specs.declared.files_fault.RestoreFault.TheVariants as files
use Rattle.file_inputs.specs.declared.fault_lines.Cause.{Cause}
use Rattle.file_inputs.specs.declared.fault_lines.Cause.TheVariants.{Content, NoCopy, NoFile}
use Rattle.file_inputs.specs.declared.fault_lines.Cause.TheVariants.{Page, RedoPoint, Unread}

-- of a restore: copy 0 is no copy, and is told where none is named
abbrev pub cause_of_restore : RestoreFault → Cause
cause_of_restore files.OutOfMemory = NoFile
cause_of_restore files.LogFull = NoFile
cause_of_restore (files.WriteFault done) = NoFile
cause_of_restore (files.ChainBroken copy) = if copy == 0 then NoCopy else Content
cause_of_restore files.RedoBeyondLog = RedoPoint
cause_of_restore files.ReadFault = Unread
cause_of_restore other = Content

-- of an audit
abbrev pub cause_of_audit : unsound.Unsound → Cause
cause_of_audit audit.OutOfMemory = NoFile
cause_of_audit (audit.ChainBroken copy) = if copy == 0 then NoCopy else Content
cause_of_audit audit.RedoBeyondLog = RedoPoint
cause_of_audit (audit.Unsound copy page) = Page copy page
cause_of_audit audit.ReadFault = Unread
cause_of_audit other = Content
