-- An archive that is read page by page.
use Rattle.std.specs.Prelude.{ℕ, ◌≡◌, ◌+◌, ◌*◌, ◌<◌, ◌≤◌, List, [], ◌∷◌, length}
use Rattle.page_core.specs.declared.page.Page.{Page}
use Rattle.copy_vault.specs.declared.archive_fault.ArchiveFault.{ArchiveFault}
use Rattle.copy_vault.specs.declared.archive_fault.ArchiveFault.TheVariants.{BadArchive}
use Rattle.copy_vault.specs.declared.archive_fault.ArchiveFault.TheVariants.{CountDiffers}
use Rattle.copy_vault.specs.declared.header.ArchiveHeader.{ArchiveHeader}
use Rattle.page_decisions.specs.Decisions.{AreDecidedBelow, AreInPlace, PageDecision, taken_pages}
use Rattle.copy_vault.specs.Archive.{IsFront, front_bytes}

-- the least number that a page behind these may have, where the first may have this one
abbrev pub next_from : ℕ → List Page → ℕ
next_from n [] = n
next_from n (page ∷ pages) = next_from (page.number + 1) pages

-- this is decided of the first pages: those that were taken may follow the header, and each of the
-- others is kept
pub record IsPart (h : ArchiveHeader) (pages : List PageDecision) : Type 0 where
  pub front : IsFront h (taken_pages pages)
  pub decided : AreDecidedBelow (length pages) pages
  pub in_place : AreInPlace pages
  pub next : next_from 0 (taken_pages pages) ≤ length pages
  pub within : length pages ≤ h.pages

-- so much is decided once these pages were read
pub record IsRead (h : ArchiveHeader) (pages : List PageDecision) : Type 0 where
  pub part : IsPart h pages
  pub next : length pages ≡ next_from 0 (taken_pages pages)

-- the bytes that were read
abbrev pub given_for : ArchiveHeader → List PageDecision → List ℕ
given_for h pages = front_bytes h (taken_pages pages)

-- why an input may not end here, where so many bytes follow so many pages of so many
abbrev pub EndsWrongly : ℕ → ℕ → ℕ → ArchiveFault → Type 0
EndsWrongly pages all filled (BadArchive at) = (0 < filled) × (at ≡ 64 + 512 * pages)
EndsWrongly pages all filled CountDiffers = (filled ≡ 0) × (pages < all)
EndsWrongly pages all filled other = ⊥
