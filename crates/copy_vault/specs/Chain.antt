-- A chain of image copies, and the pages that it has.
use Rattle.std.specs.Prelude.{ℕ, ◌≡◌, ◌<◌, ◌⊎◌, List, [], ◌∷◌, ◌++◌, length, map}
use Rattle.std.specs.List.{AllByRecursion, flat_map, range_with_len}
use Rattle.page_core.specs.declared.page.Page.{Page}
use Rattle.page_core.specs.Page.{formatted}
use Rattle.page_core.specs.PageCounts.{PageCounts, count_below}
use Rattle.copy_vault.specs.declared.chain_fault.ChainFault.{ChainFault}
use Rattle.copy_vault.specs.declared.chain_fault.ChainFault.TheVariants.{ChainBroken, OutOfMemory}
use Rattle.copy_vault.specs.declared.copy_id.CopyKind.{CopyKind}
use Rattle.copy_vault.specs.declared.copy_id.CopyKind.TheVariants.{Full, Inc}
use Rattle.page_decisions.specs.Decisions.{decision_at, page_of}
use Rattle.copy_vault.specs.Copy.{CopyView, IsComplete}
pub use Rattle.copy_vault.specs.Lent.{lent}

-- each copy is the parent of the one behind it
abbrev pub Follow : CopyView → List CopyView → Type 0
Follow copy [] = Unit {0}
Follow copy (next ∷ more) = (next.kind ≡ Inc copy.id) × Follow next more

-- the first copy is full, each other one has the one before it as its parent, and all are complete
pub record IsChain (members : List CopyView) : Type 0 where
  pub first : CopyView
  pub more : List CopyView
  pub is : members ≡ first ∷ more
  pub full : first.kind ≡ Full
  pub linked : Follow first more
  pub complete : AllByRecursion (λ copy. IsComplete copy.kind copy.pages) members

-- ---- copies that are given

-- a copy is of this kind, and of each page that the volume had when it began
pub record Fits (counts : PageCounts) (kind : CopyKind) (copy : CopyView) : Type 0 where
  pub same_kind : copy.kind ≡ kind
  pub whole : length copy.pages ≡ count_below counts copy.begin

-- the copies are a chain of a volume of these page counts, as far as they go: the first one is of
-- this kind, and each other one has the one before it as its parent
abbrev pub FitFrom : PageCounts → CopyKind → List CopyView → Type 0
FitFrom counts kind [] = Unit {0}
FitFrom counts kind (copy ∷ more) = Fits counts kind copy × FitFrom counts (Inc copy.id) more

-- the kind of the copy that may come behind these
abbrev pub kind_after : CopyKind → List CopyView → CopyKind
kind_after kind [] = kind
kind_after kind (copy ∷ more) = kind_after (Inc copy.id) more

-- the copy of this id does not fit behind those before it, which fit
pub record IsBrokenAt (counts : PageCounts) (copies : List CopyView) (id : ℕ) : Type 0 where
  pub before : List CopyView
  pub copy : CopyView
  pub after : List CopyView
  pub is : copies ≡ before ++ copy ∷ after
  pub fit : FitFrom counts Full before
  pub misfit : ¬ Fits counts (kind_after Full before) copy
  pub id_is : id ≡ copy.id

-- why the copies are refused; there is no copy 0
abbrev pub IsRefused : PageCounts → List CopyView → ChainFault → Type 0
IsRefused counts copies (ChainBroken id) =
    ((copies ≡ []) × (id ≡ 0)) ⊎ IsBrokenAt counts copies id
IsRefused counts copies OutOfMemory = FitFrom counts Full copies × (0 < length copies)

-- ---- the pages of a chain

-- the redo point of the last one
abbrev pub last_redo : List CopyView → ℕ
last_redo [] = 0
last_redo (copy ∷ []) = copy.redo
last_redo (copy ∷ next ∷ more) = last_redo (next ∷ more)

-- a page, as each copy that took it has it
abbrev pub takings : List CopyView → ℕ → List Page
takings members p = flat_map (λ copy. page_of (decision_at copy.pages p)) members

-- a page, as each copy has it: a list of one page where the copy took it, and of none where it did
-- not
abbrev pub row : List CopyView → ℕ → List (List Page)
row copies p = map (λ copy. page_of (decision_at copy.pages p)) copies

-- those of the pages below a number
abbrev pub rows : List CopyView → ℕ → List (List (List Page))
rows copies n = map (row copies) (range_with_len 0 n)

-- the last one of a page and those after it
abbrev pub last_of : Page → List Page → Page
last_of page [] = page
last_of page (next ∷ more) = last_of next more

-- a page of a chain: as the last copy that took it has it, and formatted where none took it
abbrev pub content : List CopyView → ℕ → Page
content members p = last_of (formatted p) (takings members p)

-- so many of them, the first ones, in order of their numbers
abbrev pub contents : List CopyView → ℕ → List Page
contents members n = map (content members) (range_with_len 0 n)

-- the last one of some pages, if there is one
abbrev pub last_one : List Page → List Page
last_one [] = []
last_one (page ∷ more) = last_of page more ∷ []

-- a page, as the last copy that took it has it: a list of one page, and of none where none took it
abbrev pub newest : List CopyView → ℕ → List Page
newest members p = last_one (takings members p)
