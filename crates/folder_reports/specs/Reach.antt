-- Whether a log reaches as far as a note of a closing says.
use Rattle.std.specs.Prelude.{IfSome, Option}
use Rattle.database_files.specs.declared.closed_note.ClosedNote.{ClosedNote}
use Rattle.saved_files.specs.Folder.{Entries}
use Rattle.folder_reports.specs.Sound.{HasAllOf}
use Rattle.folder_reports.specs.declared.log_end.Reach.{Reach}
use Rattle.folder_reports.specs.declared.log_end.Reach.TheVariants.{Short, Untold, Well}

-- it is told that the log has all that the note tells of only where it has
abbrev pub IsReached : Option Entries → Option ClosedNote → Reach → Type 0
IsReached entries told Well = IfSome told (HasAllOf entries)
IsReached entries told (Short bytes noted) = Unit {0}
IsReached entries told Untold = Unit {0}
