-- Of each page the RecLSN, if it is dirty.
use Rattle.std.specs.Prelude.{ℕ, ◌≡◌, ◌<◌, ◌≤◌, Bool, List, length, Option, None, Some, is_some}
use Rattle.std.specs.Prelude.{slice_index_or}
use Rattle.page_core.specs.declared.page.TheConstants.{MAX_PAGES}
use Rattle.log_records.specs.declared.dirty_page.DirtyPage.{DirtyPage}
use Rattle.buffer_pool.specs.PageSet.{has}

-- no page from one number up to another is dirty
abbrev pub HasNoneDirty : List (Option ℕ) → ℕ → ℕ → Type 0
HasNoneDirty rec_lsns from to = (p : ℕ) → from ≤ p → p < to → slice_index_or rec_lsns p None ≡ None

-- the entry of the first dirty page from a number on
pub record IsFirstEntry (rec_lsns : List (Option ℕ)) (from : ℕ) (e : DirtyPage) : Type 0 where
  pub later : from ≤ e.page
  pub within : e.page < length rec_lsns
  pub is_dirty : slice_index_or rec_lsns e.page None ≡ Some e.rec_lsn
  pub first : HasNoneDirty rec_lsns from e.page

-- the set has room for as many pages as a volume may have, and has the dirty pages; and so many
-- RecLSNs find room
pub record AreFound (rec_lsns : List (Option ℕ)) (dirty : List Bool) (room : ℕ) : Type 0 where
  pub few : length rec_lsns ≤ MAX_PAGES
  pub reach : MAX_PAGES ≤ length dirty
  pub reserved : MAX_PAGES ≤ room
  pub same : (p : ℕ) → has dirty p ≡ is_some (slice_index_or rec_lsns p None)
