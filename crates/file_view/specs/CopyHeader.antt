-- The header of an archive, as it is shown.
use Rattle.std.specs.Prelude.{ℕ, ◌≡◌, List, take}
use Rattle.copy_vault.specs.declared.archive_fault.ArchiveFault.{ArchiveFault}
use Rattle.copy_vault.specs.declared.archive_fault.ArchiveFault.TheVariants.{BadArchive}
use Rattle.copy_vault.specs.declared.archive_fault.ArchiveFault.TheVariants.{CountDiffers}
use Rattle.copy_vault.specs.declared.archive_fault.ArchiveFault.TheVariants.{OutOfMemory}
use Rattle.copy_vault.specs.declared.archive_fault.ArchiveFault.TheVariants.{ReadFault}
use Rattle.copy_vault.specs.declared.header.ArchiveHeader.{ArchiveHeader}
use Rattle.copy_vault.specs.Archive.{IsHeader, header_bytes, parent_of}
use Rattle.copy_vault.specs.ArchiveFault.{SpellsHeader}
use Rattle.file_view.specs.declared.copy_header.CopyHeader.{CopyHeader}

-- what is shown of it
abbrev pub shown_of : ArchiveHeader → CopyHeader
shown_of it = record {
  format = it.format;
  pages = it.pages;
  id = it.id;
  parent = parent_of it.kind;
  begin = it.begin;
  redo = it.redo;
  taken = it.taken;
}

-- the bytes begin with a header that an archive may have, of which this is shown
pub record IsHeaderOf (bytes : List ℕ) (shown : CopyHeader) : Type 0 where
  pub header : ArchiveHeader
  pub valid : IsHeader header
  pub spelled : take 64 bytes ≡ header_bytes header
  pub same : shown ≡ shown_of header

-- they begin with none; or the fault is none of theirs
abbrev pub RefusesHeader : List ℕ → ArchiveFault → Type 0
RefusesHeader bytes (BadArchive at) = (at ≡ 0) × ¬ SpellsHeader (take 64 bytes)
RefusesHeader bytes CountDiffers = ⊥
RefusesHeader bytes OutOfMemory = Unit {0}
RefusesHeader bytes ReadFault = Unit {0}
