-- A reader of a chain that gives the page of each archive.
use Rattle.std.specs.Prelude.{ℕ, ◌≡◌, ◌≤◌, Bool, true, false, List, [], ◌∷◌, ◌++◌, length, map}
use Rattle.std.specs.Prelude.{Option}
use Rattle.page_core.specs.PageCounts.{PageCounts, last_count}
use Rattle.page_core.specs.declared.page.Page.{Page}
use Rattle.copy_vault.specs.declared.chain_reader.ChainReader.{ChainReader}
use Rattle.copy_vault.specs.declared.copy_id.CopyKind.TheVariants.{Full}
use Rattle.copy_vault.specs.Chain.{FitFrom, IsChain}
use Rattle.copy_vault.specs.ChainReading.{AreWithinLog, HaveGivenAll, IsReading, SpellCopies}
use Rattle.copy_vault.specs.ChainReading.{heads_of}
use Rattle.copy_vault.specs.Copy.{CopyView}
pub use Rattle.copy_vault.specs.Chain.{row, rows}
pub use Rattle.copy_vault.specs.ChainRead.{place_list}

-- the ids of a reader's archives, in order
abbrev pub ids_of : ChainReader → List ℕ
ids_of it = map (λ h. h.id) (heads_of it.cursors.items)

-- their redo points
abbrev pub points_of : ChainReader → List ℕ
points_of it = map (λ h. h.redo) (heads_of it.cursors.items)

-- the reader has given these rows, which are the first ones of the chain
pub record IsReadingEach (counts : PageCounts) (inputs lefts : List (Option (List ℕ)))
    (it : ChainReader) (given : List (List (List Page))) : Type 0 where
  pub pages : List Page
  pub reading : IsReading counts inputs lefts it pages
  pub rows_made : given ≡ rows reading.copies it.given
  pub within : length given ≤ it.pages

-- the archives spell a chain of a volume of these page counts, within a log that ends there; these
-- are all of its rows, and these the ids and the redo points of its copies
pub record IsEachRead (counts : PageCounts) (end : ℕ) (inputs : List (Option (List ℕ)))
    (ids points : List ℕ) (given : List (List (List Page))) : Type 0 where
  pub copies : List CopyView
  pub spelled : SpellCopies inputs copies
  pub fit : FitFrom counts Full copies
  pub chain : IsChain copies
  pub within : AreWithinLog end copies
  pub id_each : ids ≡ map (λ copy. copy.id) copies
  pub point_each : points ≡ map (λ copy. copy.redo) copies
  pub made : given ≡ rows copies (last_count counts)

-- what a reader that had given these rows gives next: a row, or none where the chain has no more
abbrev pub GoesOnEach : PageCounts → List (Option (List ℕ)) → List (Option (List ℕ)) → ChainReader
    → List (List (List Page)) → Bool → List (List Page) → Type 0
GoesOnEach counts inputs lefts it given true pages =
    IsReadingEach counts inputs lefts it (given ++ pages ∷ [])
GoesOnEach counts inputs lefts it given false pages =
    IsEachRead counts it.end inputs (ids_of it) (points_of it) given × HaveGivenAll inputs lefts
