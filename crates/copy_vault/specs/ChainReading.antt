-- A reader of a chain: how it begins, what it gives, and why it refuses.
use Rattle.std.specs.Prelude.{ℕ, ◌≡◌, ◌<◌, ◌≤◌, ◌⊎◌, List, [], ◌∷◌, ◌++◌, length, map}
use Rattle.std.specs.Prelude.{slice_index_or, Option, None, Some, IfSome}
use Rattle.std.specs.List.{AllByRecursion}
use Rattle.std.specs.Io.KnownBytes.{Consumes}
use Rattle.page_core.specs.Input.{HasGivenAll}
use Rattle.page_core.specs.PageCounts.{PageCounts, last_count}
use Rattle.page_core.specs.declared.page.Page.{Page}
use Rattle.copy_vault.specs.declared.archive_cursor.ArchiveCursor.{ArchiveCursor}
use Rattle.copy_vault.specs.declared.chain_read_fault.ChainReadFault.{ChainReadFault}
use Rattle.copy_vault.specs.declared.chain_read_fault.ChainReadFault.TheVariants.{ChainBroken}
use Rattle.copy_vault.specs.declared.chain_read_fault.ChainReadFault.TheVariants.{OutOfMemory}
use Rattle.copy_vault.specs.declared.chain_read_fault.ChainReadFault.TheVariants.{ReadFault}
use Rattle.copy_vault.specs.declared.chain_read_fault.ChainReadFault.TheVariants.{RedoBeyondLog}
use Rattle.copy_vault.specs.declared.chain_reader.ChainReader.{ChainReader}
use Rattle.copy_vault.specs.declared.copy_id.CopyKind.{CopyKind}
use Rattle.copy_vault.specs.declared.copy_id.CopyKind.TheVariants.{Full}
use Rattle.copy_vault.specs.declared.header.ArchiveHeader.{ArchiveHeader}
use Rattle.copy_vault.specs.Archive.{IsArchived, IsHeader, SpellsCopy, archive_bytes, header_bytes}
use Rattle.copy_vault.specs.Chain.{FitFrom, IsChain, contents, last_redo}
use Rattle.copy_vault.specs.ChainRead.{AreBelow, AreRead, AreRefused, FailsInHeader, HeadsFit}
use Rattle.copy_vault.specs.ChainRead.{IsHeadFit, IsNew, kind_behind, last_point, moment_of}
use Rattle.page_decisions.specs.Decisions.{taken_pages}
use Rattle.copy_vault.specs.Copy.{CopyView}

-- ---- the headers

abbrev pub heads_of : List ArchiveCursor → List ArchiveHeader
heads_of its = map (λ it. it.header) its

-- so many headers were read, the first ones, and they fit; the other archives were not read
pub record AreOpened (counts : PageCounts) (inputs lefts : List (Option (List ℕ)))
    (its : List ArchiveCursor) : Type 0 where
  pub fit : HeadsFit counts Full (heads_of its)
  pub within : length its ≤ length inputs
  pub count : length lefts ≡ length inputs
  pub each : (k : ℕ) (i l : Option (List ℕ)) (it : ArchiveCursor) → k < length its
      → IsNew (slice_index_or inputs k i) (slice_index_or lefts k l) (slice_index_or its k it)
  pub unread : (k : ℕ) (i : Option (List ℕ)) → length its ≤ k → k < length inputs
      → slice_index_or lefts k i ≡ slice_index_or inputs k i

-- this header was read, and nothing else
pub record IsHeadOf (input left : Option (List ℕ)) (h : ArchiveHeader) : Type 0 where
  pub valid : IsHeader h
  pub given : Consumes input left (header_bytes h)

-- an archive has no header, or one that does not fit, or its reader failed in it
abbrev pub IsHeadRefused : PageCounts → CopyKind → Option (List ℕ) → Option (List ℕ)
    → ChainReadFault → Type 0
IsHeadRefused counts kind input left (ChainBroken id) =
    (h : ArchiveHeader) × (IsHeadOf input left h × (id ≡ h.id) × ¬ IsHeadFit counts kind h)
IsHeadRefused counts kind input left other = FailsInHeader input left other

-- so is the first archive of which this holds; those before it have headers that fit, and those
-- behind it are not read
pub record IsFirstHeadRefused (counts : PageCounts) (inputs lefts : List (Option (List ℕ)))
    (fault : ChainReadFault) : Type 0 where
  pub heads : List ArchiveHeader
  pub fit : HeadsFit counts Full heads
  pub there : length heads < length inputs
  pub before : (k : ℕ) (i l : Option (List ℕ)) (h : ArchiveHeader) → k < length heads
      → IsHeadOf (slice_index_or inputs k i) (slice_index_or lefts k l) (slice_index_or heads k h)
  pub here : (i l : Option (List ℕ)) → IsHeadRefused counts (kind_behind Full heads)
      (slice_index_or inputs (length heads) i) (slice_index_or lefts (length heads) l) fault
  pub behind : (k : ℕ) (i : Option (List ℕ)) → length heads < k → k < length inputs
      → slice_index_or lefts k i ≡ slice_index_or inputs k i

-- why the headers are not all read
abbrev pub IsNotOpened : PageCounts → List (Option (List ℕ)) → List (Option (List ℕ))
    → ChainReadFault → Type 0
IsNotOpened counts inputs lefts OutOfMemory = Unit {0}
IsNotOpened counts inputs lefts other = IsFirstHeadRefused counts inputs lefts other

-- all headers fit, and one of them has a redo point at or past the log's end
pub record IsPastLog (counts : PageCounts) (end : ℕ) (inputs lefts : List (Option (List ℕ)))
    : Type 0 where
  pub its : List ArchiveCursor
  pub opened : AreOpened counts inputs lefts its
  pub all : length its ≡ length inputs
  pub at : ℕ
  pub there : at < length its
  pub past : (h : ArchiveHeader) → end ≤ (slice_index_or (heads_of its) at h).redo

-- why a reader of a chain is not made; there is no copy 0
abbrev pub IsNotMade : PageCounts → ℕ → List (Option (List ℕ)) → List (Option (List ℕ))
    → ChainReadFault → Type 0
IsNotMade counts end inputs lefts OutOfMemory = Unit {0}
IsNotMade counts end inputs lefts (ChainBroken id) =
    ((inputs ≡ []) × (id ≡ 0)) ⊎ IsFirstHeadRefused counts inputs lefts (ChainBroken id)
IsNotMade counts end inputs lefts RedoBeyondLog = IsPastLog counts end inputs lefts
IsNotMade counts end inputs lefts other = IsFirstHeadRefused counts inputs lefts other

-- ---- the pages

-- each redo point is below the log's end
abbrev pub ArePointsBelow : ℕ → List ArchiveHeader → Type 0
ArePointsBelow end heads =
    (k : ℕ) (h : ArchiveHeader) → k < length heads → (slice_index_or heads k h).redo < end

-- the reader has given these pages, which are the first ones of the chain
pub record IsReading (counts : PageCounts) (inputs lefts : List (Option (List ℕ)))
    (it : ChainReader) (given : List Page) : Type 0 where
  pub heads : List ArchiveHeader
  pub copies : List CopyView
  pub some : 0 < length heads
  pub fit : HeadsFit counts Full heads
  pub points : ArePointsBelow it.end heads
  pub last : it.redo ≡ last_point heads
  pub read : AreRead it.end (moment_of it.given) 0 heads inputs lefts it.cursors.items copies
  pub made : given ≡ contents copies it.given
  pub all : it.pages ≡ last_count counts
  pub within : it.given ≤ it.pages
  pub open_still : it.failed ≡ None

-- the archives' bytes spell these copies, one each
abbrev pub SpellCopies : List (Option (List ℕ)) → List CopyView → Type 0
SpellCopies [] [] = Unit {0}
SpellCopies [] (copy ∷ copies) = ⊥
SpellCopies (input ∷ inputs) [] = ⊥
SpellCopies (input ∷ inputs) (copy ∷ copies) =
    IfSome input (SpellsCopy copy) × SpellCopies inputs copies

-- no redo point and no page of the copies is at or past the log's end
pub record AreWithinLog (end : ℕ) (copies : List CopyView) : Type 0 where
  pub points : AllByRecursion (λ copy. copy.redo < end) copies
  pub below : AllByRecursion (λ copy. AreBelow end (taken_pages copy.pages)) copies

-- the archives spell a chain of a volume of these page counts, within a log that ends there; these
-- are its pages, as many as the volume has, and this is the redo point of its last copy
pub record IsChainRead (counts : PageCounts) (end : ℕ) (inputs : List (Option (List ℕ)))
    (given : List Page) (redo : ℕ) : Type 0 where
  pub copies : List CopyView
  pub spelled : SpellCopies inputs copies
  pub fit : FitFrom counts Full copies
  pub chain : IsChain copies
  pub within : AreWithinLog end copies
  pub made : given ≡ contents copies (last_count counts)
  pub last : redo ≡ last_redo copies

-- each archive was read to its end
abbrev pub HaveGivenAll : List (Option (List ℕ)) → List (Option (List ℕ)) → Type 0
HaveGivenAll inputs lefts =
    (k : ℕ) (i l : Option (List ℕ)) → k < length inputs
    → HasGivenAll (slice_index_or inputs k i) (slice_index_or lefts k l)

-- the reader has given all pages of its chain
abbrev pub HasEnded : ChainReader → Type 0
HasEnded it = (it.failed ≡ None) × (it.pages ≤ it.given)

-- what a reader that had given these pages gives next: a page, or none where the chain has no more
abbrev pub GoesOn : PageCounts → List (Option (List ℕ)) → List (Option (List ℕ)) → ChainReader
    → List Page → Option Page → Type 0
GoesOn counts inputs lefts it given None =
    IsChainRead counts it.end inputs given it.redo × HaveGivenAll inputs lefts
GoesOn counts inputs lefts it given (Some page) =
    IsReading counts inputs lefts it (given ++ page ∷ [])

-- why a reader gives no page: the first fault that is met in the archives, whose headers fit
pub record IsStopped (counts : PageCounts) (end : ℕ) (inputs lefts : List (Option (List ℕ)))
    (fault : ChainReadFault) : Type 0 where
  pub heads : List ArchiveHeader
  pub count : length heads ≡ length inputs
  pub fit : HeadsFit counts Full heads
  pub points : ArePointsBelow end heads
  pub refused : AreRefused end heads inputs lefts fault

-- why archives give no chain for these page counts and a log that ends there
abbrev pub AreNoChain : PageCounts → ℕ → List (Option (List ℕ)) → List (Option (List ℕ))
    → ChainReadFault → Type 0
AreNoChain counts end inputs lefts fault =
    IsNotMade counts end inputs lefts fault ⊎ IsStopped counts end inputs lefts fault
    ⊎ (fault ≡ OutOfMemory)

-- ---- archives that are right

-- the archives of copies, one each
abbrev pub archives_of : List CopyView → List (Option (List ℕ))
archives_of copies = map (λ copy. Some (archive_bytes copy)) copies

-- the copies are a chain of a volume of these page counts, within a log that ends there
pub record IsRightChain (counts : PageCounts) (end : ℕ) (copies : List CopyView) : Type 0 where
  pub some : 0 < length copies
  pub fit : FitFrom counts Full copies
  pub archived : AllByRecursion IsArchived copies
  pub within : AreWithinLog end copies

-- the fault lies outside the archives: memory ran out, or a reader failed
abbrev pub IsFromOutside : ChainReadFault → Type 0
IsFromOutside OutOfMemory = Unit {0}
IsFromOutside ReadFault = Unit {0}
IsFromOutside of_the_archives = ⊥
