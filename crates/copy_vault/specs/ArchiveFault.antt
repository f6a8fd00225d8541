-- What may be wrong with the bytes of an archive.
use Rattle.std.specs.Prelude.{ℕ, ◌≡◌, ◌<◌, ◌≤◌, ◌⊎◌, List, [], ◌∷◌, ◌++◌, length, take, Option}
use Rattle.std.specs.Io.KnownBytes.{Consumes}
use Rattle.page_core.specs.declared.page.Page.{Page}
use Rattle.page_core.specs.declared.page.TheConstants.{PAGE_BYTES}
use Rattle.page_core.specs.Page.{page_bytes}
use Rattle.copy_vault.specs.declared.archive_fault.ArchiveFault.{ArchiveFault}
use Rattle.copy_vault.specs.declared.archive_fault.ArchiveFault.TheVariants.{OutOfMemory}
use Rattle.copy_vault.specs.declared.archive_fault.ArchiveFault.TheVariants.{BadArchive}
use Rattle.copy_vault.specs.declared.archive_fault.ArchiveFault.TheVariants.{CountDiffers}
use Rattle.copy_vault.specs.declared.archive_fault.ArchiveFault.TheVariants.{ReadFault}
use Rattle.copy_vault.specs.declared.header.ArchiveHeader.{ArchiveHeader}
use Rattle.copy_vault.specs.declared.header.TheConstants.{HEADER_BYTES}
use Rattle.copy_vault.specs.Archive.{IsFront, IsHeader, front_bytes, header_bytes}

-- the bytes are the header of an archive
pub record SpellsHeader (bytes : List ℕ) : Type 0 where
  pub header : ArchiveHeader
  pub valid : IsHeader header
  pub spelled : bytes ≡ header_bytes header

-- the bytes are this header with these pages, which may follow it first, and then the rest
pub record Begins (bytes : List ℕ) (h : ArchiveHeader) (pages : List Page)
    (rest : List ℕ) : Type 0 where
  pub front : IsFront h pages
  pub spelled : bytes ≡ front_bytes h pages ++ rest

-- the rest begins with a page that may follow these
pub record HasNext (h : ArchiveHeader) (pages : List Page) (rest : List ℕ) : Type 0 where
  pub page : Page
  pub more : List ℕ
  pub front : IsFront h (pages ++ page ∷ [])
  pub spelled : rest ≡ page_bytes page ++ more

-- behind a header and some pages, but not all, there are 512 bytes at this offset that are no page
-- which may follow
pub record HasBadPage (bytes : List ℕ) (at : ℕ) : Type 0 where
  pub header : ArchiveHeader
  pub pages : List Page
  pub rest : List ℕ
  pub begins : Begins bytes header pages rest
  pub place : at ≡ length (front_bytes header pages)
  pub left : length pages < header.taken
  pub whole : PAGE_BYTES ≤ length rest
  pub none : ¬ HasNext header pages rest

-- the bytes end within the page at this offset
pub record EndsInPage (bytes : List ℕ) (at : ℕ) : Type 0 where
  pub header : ArchiveHeader
  pub pages : List Page
  pub rest : List ℕ
  pub begins : Begins bytes header pages rest
  pub place : at ≡ length (front_bytes header pages)
  pub left : length pages < header.taken
  pub some : 0 < length rest
  pub short : length rest < PAGE_BYTES

-- bytes follow the last page
pub record HasMore (bytes : List ℕ) : Type 0 where
  pub header : ArchiveHeader
  pub pages : List Page
  pub rest : List ℕ
  pub begins : Begins bytes header pages rest
  pub all : length pages ≡ header.taken
  pub some : 0 < length rest

-- the bytes end at the edge of a page that is not the last one
pub record EndsAtPage (bytes : List ℕ) : Type 0 where
  pub header : ArchiveHeader
  pub pages : List Page
  pub begins : Begins bytes header pages []
  pub left : length pages < header.taken

-- the fault lies within the bytes: it is one of any input that begins with them
abbrev pub HoldsFault : List ℕ → ArchiveFault → Type 0
HoldsFault bytes (BadArchive at) =
    ((at ≡ 0) × (HEADER_BYTES ≤ length bytes) × ¬ SpellsHeader (take HEADER_BYTES bytes))
    ⊎ HasBadPage bytes at
HoldsFault bytes CountDiffers = HasMore bytes
HoldsFault bytes outside = ⊥

-- the fault comes of where the bytes end
abbrev pub EndsEarly : List ℕ → ArchiveFault → Type 0
EndsEarly bytes (BadArchive at) =
    ((at ≡ 0) × (length bytes < HEADER_BYTES)) ⊎ EndsInPage bytes at
EndsEarly bytes CountDiffers = EndsAtPage bytes
EndsEarly bytes outside = ⊥

-- the bytes have this fault; all that comes before it is right
abbrev pub HasFault : List ℕ → ArchiveFault → Type 0
HasFault bytes fault = HoldsFault bytes fault ⊎ EndsEarly bytes fault

-- the fault lies outside the bytes: memory ran out, or the reader failed
abbrev pub IsOutside : ArchiveFault → Type 0
IsOutside OutOfMemory = Unit {0}
IsOutside ReadFault = Unit {0}
IsOutside of_the_bytes = ⊥

-- any fault but the reader's
abbrev pub IsNoReadFault : ArchiveFault → Type 0
IsNoReadFault ReadFault = ⊥
IsNoReadFault other = Unit {0}

-- what a refusal says of the input of a reader
abbrev pub Refuses : List ℕ → ArchiveFault → Type 0
Refuses input OutOfMemory = Unit {0}
Refuses input ReadFault = Unit {0}
Refuses input of_the_bytes = HasFault input of_the_bytes

-- where the reader failed, these bytes and what it gave hold no fault
abbrev pub GaveNoFault : List ℕ → Option (List ℕ) → Option (List ℕ) → ArchiveFault → Type 0
GaveNoFault before old new ReadFault =
    (given : List ℕ) × (Consumes old new given
    × ((fault : ArchiveFault) → ¬ HoldsFault (before ++ given) fault))
GaveNoFault before old new other = Unit {0}
