-- What is printed of a fault.
use Rattle.std.specs.Prelude.{ℕ, List}
use Rattle.page_core.specs.FaultName.{fault_line, fault_line_with}
use Rattle.page_core.specs.declared.fault_name.FaultName.TheVariants as name
use Rattle.copy_vault.specs.declared.chain_fault.ChainFault.{ChainFault}
use Rattle.copy_vault.specs.declared.chain_fault.ChainFault.TheVariants as chain
use Rattle.copy_vault.specs.declared.archive_fault.ArchiveFault.{ArchiveFault}
use Rattle.copy_vault.specs.declared.archive_fault.ArchiveFault.TheVariants as archive
use Rattle.copy_vault.specs.declared.archive_fault.ArchiveWriteFault.{ArchiveWriteFault}
use Rattle.copy_vault.specs.declared.archive_fault.ArchiveWriteFault.TheVariants as write
use Rattle.copy_vault.specs.declared.chain_read_fault.ChainReadFault.{ChainReadFault}
use Rattle.copy_vault.specs.declared.chain_read_fault.ChainReadFault.TheVariants as read
use Rattle.copy_vault.specs.declared.copy_write_fault.CopyWriteFault.{CopyWriteFault}
use Rattle.copy_vault.specs.declared.copy_write_fault.CopyWriteFault.TheVariants.{Archive, Refused}
use Rattle.copy_vault.specs.declared.fault.CopyFault.{CopyFault}
use Rattle.copy_vault.specs.declared.fault.CopyFault.TheVariants as copy

abbrev pub line_of_chain : ChainFault → List ℕ
line_of_chain chain.OutOfMemory = fault_line name.OutOfMemory
line_of_chain (chain.ChainBroken id) = fault_line_with name.ChainBroken id

abbrev pub line_of_archive : ArchiveFault → List ℕ
line_of_archive archive.OutOfMemory = fault_line name.OutOfMemory
line_of_archive (archive.BadArchive at) = fault_line_with name.BadArchive at
line_of_archive archive.CountDiffers = fault_line name.CountDiffers
line_of_archive archive.ReadFault = fault_line name.ReadFault

abbrev pub line_of_write : ArchiveWriteFault → List ℕ
line_of_write write.OutOfMemory = fault_line name.OutOfMemory
line_of_write (write.WriteFault done) = fault_line_with name.WriteFault done

abbrev pub line_of_chain_read : ChainReadFault → List ℕ
line_of_chain_read read.OutOfMemory = fault_line name.OutOfMemory
line_of_chain_read (read.BadArchive at) = fault_line_with name.BadArchive at
line_of_chain_read (read.ChainBroken id) = fault_line_with name.ChainBroken id
line_of_chain_read read.CountDiffers = fault_line name.CountDiffers
line_of_chain_read read.ReadFault = fault_line name.ReadFault
line_of_chain_read read.RedoBeyondLog = fault_line name.RedoBeyondLog
line_of_chain_read (read.PageBeyondLog page) = fault_line_with name.PageBeyondLog page

abbrev pub line_of_copy : CopyFault → List ℕ
line_of_copy copy.OutOfMemory = fault_line name.OutOfMemory
line_of_copy copy.NoCopy = fault_line name.NoCopy
line_of_copy copy.CopyNotOpen = fault_line name.CopyNotOpen
line_of_copy copy.CopyNotComplete = fault_line name.CopyNotComplete
line_of_copy (copy.PagesLeft page) = fault_line_with name.PagesLeft page
line_of_copy copy.TooManyCopies = fault_line name.TooManyCopies

abbrev pub line_of_copy_write : CopyWriteFault → List ℕ
line_of_copy_write (Refused fault) = line_of_copy fault
line_of_copy_write (Archive fault) = line_of_write fault
