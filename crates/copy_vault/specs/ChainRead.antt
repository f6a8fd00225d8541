-- The archives of a chain, which are read side by side, page by page.
use Rattle.std.specs.Prelude.{ℕ, ◌≡◌, ◌+◌, ◌*◌, ◌<◌, ◌≤◌, ◌⊎◌, List, [], ◌∷◌, ◌++◌, length}
use Rattle.std.specs.Prelude.{slice_index_or, suc, zero, Option, Some, None, IfSome, nat_eq}
use Rattle.std.specs.Prelude.{if◌then◌else◌}
use Rattle.std.specs.List.{AllByRecursion}
use Rattle.std.specs.Io.KnownBytes.{Consumes, IsAtEnd}
use Rattle.page_core.specs.declared.page.Page.{Page}
use Rattle.page_core.specs.declared.page.TheConstants.{PAGE_BYTES}
use Rattle.page_core.specs.Page.{SpellsPage, page_bytes}
use Rattle.page_core.specs.PageCounts.{PageCounts, count_below}
use Rattle.copy_vault.specs.declared.archive_cursor.ArchiveCursor.{ArchiveCursor}
use Rattle.copy_vault.specs.declared.chain_read_fault.ChainReadFault.{ChainReadFault}
use Rattle.copy_vault.specs.declared.chain_read_fault.ChainReadFault.TheVariants.{BadArchive}
use Rattle.copy_vault.specs.declared.chain_read_fault.ChainReadFault.TheVariants.{CountDiffers}
use Rattle.copy_vault.specs.declared.chain_read_fault.ChainReadFault.TheVariants.{PageBeyondLog}
use Rattle.copy_vault.specs.declared.chain_read_fault.ChainReadFault.TheVariants.{ReadFault}
use Rattle.copy_vault.specs.declared.header.ArchiveHeader.{ArchiveHeader}
use Rattle.copy_vault.specs.declared.header.TheConstants.{HEADER_BYTES}
use Rattle.copy_vault.specs.declared.archive_fault.ArchiveFault.TheVariants as archive
use Rattle.copy_vault.specs.declared.copy_id.CopyKind.{CopyKind}
use Rattle.copy_vault.specs.declared.copy_id.CopyKind.TheVariants.{Inc}
use Rattle.copy_vault.specs.Archive.{IsFront, IsHeader, header_bytes}
use Rattle.copy_vault.specs.ArchiveFault.{Begins, HasFault, HasNext}
use Rattle.copy_vault.specs.ArchiveRead.{IsRead, given_for, next_from}
use Rattle.copy_vault.specs.Chain.{content, row}
use Rattle.page_decisions.specs.Decisions.{PageDecision, decision_at, page_of, taken_count}
use Rattle.copy_vault.specs.Copy.{CopyView}
use Rattle.page_decisions.specs.Decisions.{taken_pages}

-- ---- when a page of an archive is read

-- An archive's first page is read at moment 0, and each other one at the number of the page before
-- it plus 1, once the chain's page of that number was given. At one moment the archives are gone
-- through in order.

-- each page has an LSN below the log's end
abbrev pub AreBelow : ℕ → List Page → Type 0
AreBelow end pages = AllByRecursion (λ page. page.lsn < end) pages

-- nothing is wrong with what is read of the archive before this moment: these are its pages so far.
-- Once all of them were read nothing follows
pub record IsRightTo (end next : ℕ) (h : ArchiveHeader) (bytes : List ℕ) : Type 0 where
  pub pages : List Page
  pub rest : List ℕ
  pub begins : Begins bytes h pages rest
  pub below : AreBelow end pages
  pub far : (next ≤ next_from 0 pages) ⊎ (length pages ≡ h.taken)
  pub whole : 0 < next + h.taken → length pages ≡ h.taken → rest ≡ []

-- a page stands here that may follow these, and then more
pub record StandsNext (h : ArchiveHeader) (pages : List Page) (rest : List ℕ) (page : Page)
    (more : List ℕ) : Type 0 where
  pub front : IsFront h (pages ++ page ∷ [])
  pub spelled : rest ≡ page_bytes page ++ more

-- bytes follow the page that stands here, which is the last one
pub record HasMoreBehind (end : ℕ) (h : ArchiveHeader) (pages : List Page) (rest : List ℕ)
    : Type 0 where
  pub page : Page
  pub more : List ℕ
  pub stands : StandsNext h pages rest page more
  pub below : page.lsn < end
  pub last : length pages + 1 ≡ h.taken
  pub some : 0 < length more

-- the page that stands here has this number, and an LSN at or past the log's end
pub record IsPastEnd (end : ℕ) (h : ArchiveHeader) (pages : List Page) (rest : List ℕ)
    (number : ℕ) : Type 0 where
  pub page : Page
  pub more : List ℕ
  pub stands : StandsNext h pages rest page more
  pub number_is : number ≡ page.number
  pub past : end ≤ page.lsn

-- what is wrong with the bytes behind these pages
abbrev pub IsWrongBehind : ℕ → ArchiveHeader → List Page → List ℕ → ChainReadFault → Type 0
IsWrongBehind end h pages rest (BadArchive at) =
    (at ≡ HEADER_BYTES + PAGE_BYTES * length pages) × (length pages < h.taken)
    × (0 < length rest) × ¬ HasNext h pages rest
IsWrongBehind end h pages rest CountDiffers =
    ((length pages < h.taken) × (rest ≡ []))
    ⊎ ((pages ≡ []) × (h.taken ≡ 0) × (0 < length rest))
    ⊎ HasMoreBehind end h pages rest
IsWrongBehind end h pages rest (PageBeyondLog number) = IsPastEnd end h pages rest number
IsWrongBehind end h pages rest other = ⊥

-- the fault is met at this moment, where the page behind these is read
pub record IsMet (end next : ℕ) (h : ArchiveHeader) (bytes : List ℕ) (fault : ChainReadFault)
    : Type 0 where
  pub pages : List Page
  pub rest : List ℕ
  pub begins : Begins bytes h pages rest
  pub below : AreBelow end pages
  pub moment : next ≡ next_from 0 pages
  pub wrong : IsWrongBehind end h pages rest fault

-- what a reader gave is right: a header, pages that may follow it, and less than a page behind them
pub record IsRightSoFar (end : ℕ) (h : ArchiveHeader) (given : List ℕ) : Type 0 where
  pub pages : List Page
  pub pending : List ℕ
  pub begins : Begins given h pages pending
  pub below : AreBelow end pages
  pub short : length pending < PAGE_BYTES
  pub last : length pages ≡ h.taken → pending ≡ []

-- a reader has given only what is right
abbrev pub GaveRight : ℕ → ArchiveHeader → Option (List ℕ) → Option (List ℕ) → Type 0
GaveRight end h old new = (given : List ℕ) × (Consumes old new given × IsRightSoFar end h given)

-- an archive is refused at this moment: the fault is met in its bytes, or what was given of them is
-- right
abbrev pub FailsAt : ℕ → ℕ → ArchiveHeader → Option (List ℕ) → Option (List ℕ) → ChainReadFault
    → Type 0
FailsAt end next h input left ReadFault = GaveRight end h input left
FailsAt end next h input left other = IfSome input (λ bytes. IsMet end next h bytes other)

-- ---- what was read of an archive

-- the page at hand, if it has this number
abbrev pub hand_at : Option Page → ℕ → List Page
hand_at None p = []
hand_at (Some page) p = if nat_eq page.number p then page ∷ [] else []

-- the page in a place, if there is one
abbrev pub place_list : Option Page → List Page
place_list None = []
place_list (Some page) = page ∷ []

-- the copy of an archive, of whose pages this is decided
abbrev pub copy_of : ArchiveHeader → List PageDecision → CopyView
copy_of h pages = record {
  id = h.id;
  kind = h.kind;
  begin = h.begin;
  redo = h.redo;
  pages = pages;
}

-- so much of the archive's copy was read before this moment, all of it right. Of the pages that are
-- not given yet just the one at hand was read
pub record HasRead (end next : ℕ) (h : ArchiveHeader) (input left : Option (List ℕ))
    (it : ArchiveCursor) (copy : CopyView) : Type 0 where
  pub header : it.header ≡ h
  pub is : copy ≡ copy_of h copy.pages
  pub read : IsRead h copy.pages
  pub count : it.read ≡ taken_count copy.pages
  pub from : it.from ≡ length copy.pages
  pub below : AreBelow end (taken_pages copy.pages)
  pub given : Consumes input left (given_for h copy.pages)
  pub far : (next ≤ length copy.pages) ⊎ (taken_count copy.pages ≡ h.taken)
  pub ended : 0 < next + h.taken → taken_count copy.pages ≡ h.taken → IsAtEnd left
  pub hand : (p : ℕ) → next ≤ p + 1 → page_of (decision_at copy.pages p) ≡ hand_at it.page p

-- the pages below this number are the same in both
abbrev pub IsSameBelow : ℕ → CopyView → CopyView → Type 0
IsSameBelow next old new =
    (p : ℕ) → p < next → page_of (decision_at new.pages p) ≡ page_of (decision_at old.pages p)

-- more is read of an archive, and the pages of before stay
pub record HasReadOn (end next : ℕ) (h : ArchiveHeader) (input left : Option (List ℕ))
    (it : ArchiveCursor) (old : CopyView) : Type 0 where
  pub copy : CopyView
  pub read : HasRead end (next + 1) h input left it copy
  pub same : IsSameBelow next old copy

-- ---- the archives of a chain

-- the header is that of a copy of this kind, and of each page that the volume had when it began
pub record IsHeadFit (counts : PageCounts) (kind : CopyKind) (h : ArchiveHeader) : Type 0 where
  pub same_kind : h.kind ≡ kind
  pub whole : h.pages ≡ count_below counts h.begin

-- the headers are those of a chain of a volume of these page counts: the first one is of this kind,
-- and each other one has the copy before it as its parent
abbrev pub HeadsFit : PageCounts → CopyKind → List ArchiveHeader → Type 0
HeadsFit counts kind [] = Unit {0}
HeadsFit counts kind (h ∷ more) =
    IsHeadFit counts kind h × HeadsFit counts (Inc h.id) more

-- the kind of the copy that may come behind these
abbrev pub kind_behind : CopyKind → List ArchiveHeader → CopyKind
kind_behind kind [] = kind
kind_behind kind (h ∷ more) = kind_behind (Inc h.id) more

-- the redo point of the last one
abbrev pub last_point : List ArchiveHeader → ℕ
last_point [] = 0
last_point (h ∷ []) = h.redo
last_point (h ∷ next ∷ more) = last_point (next ∷ more)

-- so much was read of each archive: of so many, the first ones, up to the end of this moment, and
-- of the others up to its begin
pub record AreRead (end next at : ℕ) (heads : List ArchiveHeader)
    (inputs lefts : List (Option (List ℕ))) (its : List ArchiveCursor) (copies : List CopyView)
    : Type 0 where
  pub heads_count : length heads ≡ length its
  pub inputs_count : length inputs ≡ length its
  pub lefts_count : length lefts ≡ length its
  pub copies_count : length copies ≡ length its
  pub done : (k : ℕ) (h : ArchiveHeader) (i l : Option (List ℕ)) (it : ArchiveCursor)
      (copy : CopyView) → k < length its → k < at
      → HasRead end (next + 1) (slice_index_or heads k h) (slice_index_or inputs k i)
      (slice_index_or lefts k l) (slice_index_or its k it) (slice_index_or copies k copy)
  pub due : (k : ℕ) (h : ArchiveHeader) (i l : Option (List ℕ)) (it : ArchiveCursor)
      (copy : CopyView) → k < length its → at ≤ k
      → HasRead end next (slice_index_or heads k h) (slice_index_or inputs k i)
      (slice_index_or lefts k l) (slice_index_or its k it) (slice_index_or copies k copy)

-- more is read of the archives, and the pages below this number stay
pub record AreReadOn (end next at below : ℕ) (heads : List ArchiveHeader)
    (inputs lefts : List (Option (List ℕ))) (its : List ArchiveCursor) (old : List CopyView)
    : Type 0 where
  pub copies : List CopyView
  pub read : AreRead end next at heads inputs lefts its copies
  pub same : (p : ℕ) → p < below → row copies p ≡ row old p

-- the first fault that is met in the archives, moment by moment, and in their order at each
pub record IsFirstMet (end : ℕ) (heads : List ArchiveHeader) (inputs : List (Option (List ℕ)))
    (fault : ChainReadFault) : Type 0 where
  pub next : ℕ
  pub at : ℕ
  pub there : at < length inputs
  pub before : (k : ℕ) (h : ArchiveHeader) (i : Option (List ℕ)) → k < at
      → IfSome (slice_index_or inputs k i) (IsRightTo end (next + 1) (slice_index_or heads k h))
  pub here : (h : ArchiveHeader) (i : Option (List ℕ))
      → IfSome (slice_index_or inputs at i)
      (λ bytes. IsMet end next (slice_index_or heads at h) bytes fault)
  pub behind : (k : ℕ) (h : ArchiveHeader) (i : Option (List ℕ)) → at < k → k < length inputs
      → IfSome (slice_index_or inputs k i) (IsRightTo end next (slice_index_or heads k h))

-- all that the readers gave is right
abbrev pub HaveGivenRight : ℕ → List ArchiveHeader → List (Option (List ℕ))
    → List (Option (List ℕ)) → Type 0
HaveGivenRight end heads inputs lefts =
    (k : ℕ) (h : ArchiveHeader) (i l : Option (List ℕ)) → k < length inputs
    → GaveRight end (slice_index_or heads k h) (slice_index_or inputs k i)
    (slice_index_or lefts k l)

-- the archives are refused, whose headers are these
abbrev pub AreRefused : ℕ → List ArchiveHeader → List (Option (List ℕ))
    → List (Option (List ℕ)) → ChainReadFault → Type 0
AreRefused end heads inputs lefts ReadFault = HaveGivenRight end heads inputs lefts
AreRefused end heads inputs lefts other = IsFirstMet end heads inputs other

-- a page of each copy is at hand, or its copy does not have it
pub record AreAtHand (its : List ArchiveCursor) (p : ℕ) (copies : List CopyView) : Type 0 where
  pub count : length copies ≡ length its
  pub each : (k : ℕ) (it : ArchiveCursor) (copy : CopyView) → k < length its
      → page_of (decision_at (slice_index_or copies k copy).pages p)
      ≡ hand_at (slice_index_or its k it).page p

-- ---- a chain of archives whose pages are given

-- when the archives are read next, once so many pages were given
abbrev pub moment_of : ℕ → ℕ
moment_of zero = 0
moment_of (suc n) = suc n + 1

-- a page was given, and more is read of the archives
pub record IsGiven (end count : ℕ) (heads : List ArchiveHeader)
    (inputs lefts : List (Option (List ℕ))) (its : List ArchiveCursor) (old : List CopyView)
    (page : Page) : Type 0 where
  pub copies : List CopyView
  pub read : AreRead end (count + 2) 0 heads inputs lefts its copies
  pub same : (p : ℕ) → p < count → row copies p ≡ row old p
  pub is : page ≡ content copies count

-- so was the page of each archive that took it
pub record IsRowGiven (end count : ℕ) (heads : List ArchiveHeader)
    (inputs lefts : List (Option (List ℕ))) (its : List ArchiveCursor) (old : List CopyView)
    (pages : List (List Page)) : Type 0 where
  pub copies : List CopyView
  pub read : AreRead end (count + 2) 0 heads inputs lefts its copies
  pub same : (p : ℕ) → p < count → row copies p ≡ row old p
  pub is : pages ≡ row copies count

-- ---- one step of reading an archive

-- only the header was read
pub record IsNew (input left : Option (List ℕ)) (it : ArchiveCursor) : Type 0 where
  pub valid : IsHeader it.header
  pub given : Consumes input left (header_bytes it.header)
  pub read : it.read ≡ 0
  pub from : it.from ≡ 0
  pub page : it.page ≡ None

-- an archive has no header, or its reader failed before it had given one
abbrev pub FailsInHeader : Option (List ℕ) → Option (List ℕ) → ChainReadFault → Type 0
FailsInHeader input left (BadArchive at) =
    (at ≡ 0) × IfSome input (λ bytes. HasFault bytes (archive.BadArchive 0))
FailsInHeader input left ReadFault =
    (given : List ℕ) × (Consumes input left given × (length given < HEADER_BYTES))
FailsInHeader input left other = ⊥

-- so many bytes were given, and there are no more
abbrev pub EndsAfter : ℕ → Option (List ℕ) → Option (List ℕ) → Type 0
EndsAfter count input left =
    (given : List ℕ) × (Consumes input left given × (length given ≡ count) × IsAtEnd left)

-- the bytes are a page, whose number is at least the first of these and below the second
pub record IsPageAfter (from pages : ℕ) (bytes : List ℕ) (page : Page) : Type 0 where
  pub spells : SpellsPage page bytes
  pub rises : from ≤ page.number
  pub within : page.number < pages

-- they are none, or one with an LSN at or past the log's end
abbrev pub IsWrongPage : ℕ → ℕ → ℕ → ℕ → List ℕ → ChainReadFault → Type 0
IsWrongPage end read from pages bytes (BadArchive at) =
    (at ≡ HEADER_BYTES + PAGE_BYTES * read)
    × ((page : Page) → ¬ IsPageAfter from pages bytes page)
IsWrongPage end read from pages bytes (PageBeyondLog number) =
    (page : Page)
    × (IsPageAfter from pages bytes page × (number ≡ page.number) × (end ≤ page.lsn))
IsWrongPage end read from pages bytes other = ⊥

-- the input goes on, or its reader failed before it had given more
abbrev pub FindsNoEnd : Option (List ℕ) → Option (List ℕ) → ChainReadFault → Type 0
FindsNoEnd input left CountDiffers =
    (more : List ℕ) × (Consumes input left more × (0 < length more))
FindsNoEnd input left ReadFault = Consumes input left []
FindsNoEnd input left other = ⊥
