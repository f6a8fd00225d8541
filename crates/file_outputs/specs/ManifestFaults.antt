-- What is told of a manifest that is not in its place.
use Rattle.saved_files.specs.declared.file_fault.FileFault.{FileFault}
use Rattle.saved_files.specs.declared.put_fault.PutFault.TheVariants.{Unmade, Unplaced, Unwritten}
use Rattle.saved_files.specs.declared.put_stored.PutStoredFault.{PutStoredFault}
use Rattle.saved_files.specs.declared.put_stored.PutStoredFault.TheVariants.{Unput, Unstored}

-- the fault of the step that failed
abbrev pub line_of : PutStoredFault FileFault → FileFault
line_of (Unput (Unmade why)) = why
line_of (Unput (Unwritten why)) = why
line_of (Unput (Unplaced why)) = why
line_of (Unstored why) = why
