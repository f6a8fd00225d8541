-- An archive: the bytes of a complete copy.
use Rattle.std.specs.Prelude.{ℕ, ◌≡◌, ◌+◌, ◌-◌, ◌<◌, ◌≤◌, ◌%◌, ◌^◌, List, [], ◌∷◌, ◌++◌, length}
use Rattle.std.specs.Prelude.{codes, replicate}
use Rattle.std.specs.List.{AllByRecursion}
use Rattle.std.specs.Int.{w32, w64, to_le_bytes}
use Rattle.page_core.specs.declared.page.Page.{Page}
use Rattle.page_core.specs.declared.page.TheConstants.{MAX_PAGES}
use Rattle.page_core.specs.declared.numbers.TheConstants.{LSN_STEP}
use Rattle.page_core.specs.declared.format.Format.{Format}
use Rattle.page_core.specs.declared.format.Format.TheVariants.{Second}
use Rattle.page_core.specs.Format.{digit_of}
use Rattle.page_core.specs.Page.{IsPage, volume_bytes}
use Rattle.copy_vault.specs.declared.copy_id.CopyKind.{CopyKind}
use Rattle.copy_vault.specs.declared.copy_id.CopyKind.TheVariants.{Full, Inc}
use Rattle.copy_vault.specs.declared.copy_id.TheConstants.{MAX_COPIES}
use Rattle.copy_vault.specs.declared.header.ArchiveHeader.{ArchiveHeader}
use Rattle.copy_vault.specs.declared.header.TheConstants.{FULL, HEADER_BYTES, INC}
use Rattle.page_decisions.specs.Decisions.{taken_count, taken_pages}
use Rattle.copy_vault.specs.Copy.{CopyView, IsComplete}

abbrev pub kind_number : CopyKind → ℕ
kind_number Full = FULL
kind_number (Inc parent) = INC

-- a full copy has no parent, and 0 in its place
abbrev pub parent_of : CopyKind → ℕ
parent_of Full = 0
parent_of (Inc parent) = parent

-- the 64 bytes in front of the pages: AIMGARC1 or AIMGARC2, and numbers, each with its lowest byte
-- first
unfoldable pub header_bytes : ArchiveHeader → List ℕ
header_bytes h =
    codes "AIMGARC" ++ digit_of h.format ∷ [] ++ to_le_bytes w32 h.pages ++ to_le_bytes w32 h.id
    ++ to_le_bytes w32 (kind_number h.kind) ++ to_le_bytes w32 (parent_of h.kind)
    ++ to_le_bytes w64 h.begin ++ to_le_bytes w64 h.redo ++ to_le_bytes w32 h.taken
    ++ replicate (HEADER_BYTES - 44) 0

-- a full copy took each page; the parent of an incremental one came before it
abbrev pub IsKindOf : CopyKind → ArchiveHeader → Type 0
IsKindOf Full h = h.taken ≡ h.pages
IsKindOf (Inc parent) h = (1 ≤ parent) × (parent < h.id) × (h.taken ≤ h.pages)

-- a header that an archive may have
pub record IsHeader (h : ArchiveHeader) : Type 0 where
  pub some_pages : 1 ≤ h.pages
  pub few_pages : h.pages ≤ MAX_PAGES
  pub least_id : 1 ≤ h.id
  pub most_id : h.id ≤ MAX_COPIES
  pub kind : IsKindOf h.kind h
  pub begin_fits : h.begin < 2 ^ 64
  pub begin_at_record : h.begin % LSN_STEP ≡ 0
  pub redo_at_record : h.redo % LSN_STEP ≡ 0
  pub redo_past_header : LSN_STEP ≤ h.redo
  pub redo_first : h.redo ≤ h.begin

-- the header of a copy's archive, in a format; and as it is written
abbrev pub header_in : Format → CopyView → ArchiveHeader
header_in format copy = record {
  format = format;
  pages = length copy.pages;
  id = copy.id;
  kind = copy.kind;
  begin = copy.begin;
  redo = copy.redo;
  taken = taken_count copy.pages;
}

abbrev pub header_of : CopyView → ArchiveHeader
header_of copy = header_in Second copy

-- a header and the pages that follow it
abbrev pub front_bytes : ArchiveHeader → List Page → List ℕ
front_bytes h pages = header_bytes h ++ volume_bytes pages

-- the bytes of a copy: its header, and the pages that it took, in order of their numbers
abbrev pub bytes_in : Format → CopyView → List ℕ
bytes_in format copy = front_bytes (header_in format copy) (taken_pages copy.pages)

-- those that are written
abbrev pub archive_bytes : CopyView → List ℕ
archive_bytes copy = bytes_in Second copy

-- a copy that has a spelling
pub record IsArchived (copy : CopyView) : Type 0 where
  pub header : IsHeader (header_of copy)
  pub complete : IsComplete copy.kind copy.pages
  pub pages : AllByRecursion IsPage (taken_pages copy.pages)

-- the bytes are the spelling of the copy in one of the formats
pub record SpellsCopy (copy : CopyView) (bytes : List ℕ) : Type 0 where
  pub valid : IsArchived copy
  pub format : Format
  pub spelled : bytes ≡ bytes_in format copy

-- the page numbers rise, the first one being at least this
abbrev pub RiseFrom : ℕ → List Page → Type 0
RiseFrom n [] = Unit {0}
RiseFrom n (page ∷ pages) = (n ≤ page.number) × RiseFrom (page.number + 1) pages

-- these pages may follow the header first, so far
pub record IsFront (h : ArchiveHeader) (pages : List Page) : Type 0 where
  pub header : IsHeader h
  pub few : length pages ≤ h.taken
  pub valid : AllByRecursion IsPage pages
  pub rising : RiseFrom 0 pages
  pub within : AllByRecursion (λ page. page.number < h.pages) pages
