-- Marks at the slots of frames, for a search that passes over each slot that has none.
use Rattle.std.specs.Prelude.{ℕ, ◌≡◌, ◌<◌, Bool, false, List, length, slice_index_or}
use Rattle.std.specs.Prelude.{Option}
use Rattle.std.specs.Option.{option_map_or}
use Rattle.page_core.specs.declared.page.Page.{Page}
use Rattle.buffer_pool.specs.PageSet.{has}

-- a set of the slots that have a mark, and how many slots it has room for
pub record MarksView : Type 0 where
  pub set : List Bool
  pub reach : ℕ

-- the search passes over the slot
pub record IsPassed (marks : MarksView) (place : ℕ) : Type 0 where
  pub within : place < marks.reach
  pub unmarked : has marks.set place ≡ false

-- the slot has a page, which is clean
abbrev pub has_clean : (ℕ → Bool) → Option Page → Bool
has_clean is_clean slot = option_map_or (λ page. is_clean page.number) slot false

-- no page that the search passes over is clean
abbrev pub PassesNone : (ℕ → Bool) → List (Option Page) → MarksView → Type 0
PassesNone is_clean slots marks = (k : ℕ) (d : Option Page) → k < length slots → IsPassed marks k
    → has_clean is_clean (slice_index_or slots k d) ≡ false
