-- A file that was not written.
use Rattle.std.specs.Prelude.{ℕ, ◌≡◌, ◌<◌, List, length, take, Option}
use Rattle.std.specs.Io.KnownBytes.{Appends, Keeps}
use Rattle.page_core.specs.FaultName.{fault_line, fault_line_with}
use Rattle.page_core.specs.declared.fault_name.FaultName.TheVariants as name
use Rattle.copy_vault.specs.declared.archive_fault.ArchiveWriteFault.{ArchiveWriteFault}
use Rattle.copy_vault.specs.declared.archive_fault.ArchiveWriteFault.TheVariants as archive
use Rattle.saved_files.specs.declared.file_fault.FileFault.{FileFault}
use Rattle.saved_files.specs.declared.file_fault.FileFault.TheVariants.{OutOfMemory, WriteFault}

-- what is printed of it
abbrev pub line_of : FileFault → List ℕ
line_of OutOfMemory = fault_line name.OutOfMemory
line_of (WriteFault done) = fault_line_with name.WriteFault done

-- what it is of an archive
abbrev pub of_archive : ArchiveWriteFault → FileFault
of_archive archive.OutOfMemory = OutOfMemory
of_archive (archive.WriteFault done) = WriteFault done

-- the first bytes were written, so many but not all, and nothing else; without memory, nothing
abbrev pub Leaves : List ℕ → Option (List ℕ) → Option (List ℕ) → FileFault → Type 0
Leaves bytes old new OutOfMemory = Keeps old new
Leaves bytes old new (WriteFault done) =
    (done < length bytes) × Appends old new (take done bytes)

-- no byte is told to have gone out
abbrev pub IsOfNoByte : FileFault → Type 0
IsOfNoByte OutOfMemory = Unit {0}
IsOfNoByte (WriteFault done) = done ≡ 0
