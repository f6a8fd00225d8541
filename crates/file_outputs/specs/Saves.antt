-- What is saved in a folder.
use Rattle.std.specs.Prelude.{Bool, Err, None, Ok, Option, Result, Some}
use Rattle.std.specs.declared.alloc.AllocError.{AllocError}
use Rattle.manifest.specs.Entries.{Listed}
use Rattle.copy_coverage.specs.Retired.{RetiredView}
use Rattle.checked_files.specs.Left.{AreNoted, NotesNoOther}
use Rattle.saved_files.specs.Saved.{parts_of}

-- what was found, unless memory was wanting
abbrev pub found_in : Result Bool AllocError → Option Bool
found_in (Ok found) = Some found
found_in (Err why) = None

-- the manifest names each file that is saved of what an engine leaves, and no other file
pub record IsManifestOf (retired : RetiredView) (it : Listed) : Type 0 where
  pub noted : AreNoted (parts_of retired) it.entries
  pub only : NotesNoOther (parts_of retired) it.entries
