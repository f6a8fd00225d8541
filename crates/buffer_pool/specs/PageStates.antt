-- The states of all pages, as columns of a table.
use Rattle.std.specs.Prelude.{ℕ, ◌≡◌, ◌<◌, ◌≤◌, List, length, map, Option, None, Some, IfSome}
use Rattle.std.specs.Prelude.{slice_index, slice_index_or}
use Rattle.std.specs.List.{filter_map, range_with_len}
use Rattle.std.specs.Option.{option_map}
use Rattle.page_core.specs.declared.page.Page.{Page}
use Rattle.page_core.specs.declared.page.TheConstants.{MAX_PAGES}
use Rattle.log_records.specs.declared.dirty_page.DirtyPage.{DirtyPage}
use Rattle.buffer_pool.specs.Pool.{PageState, state_in}

-- the states of the pages, from the columns
unfoldable pub states_of : List ℕ → List (Option ℕ) → List (Option Page) → List (Option ℕ)
    → List PageState
states_of written rec_lsns images since =
    map (λ p. record {
      written = slice_index written p;
      rec_lsn = slice_index_or rec_lsns p None;
      writing = slice_index_or images p None;
      since = slice_index_or since p None;
    })
    (range_with_len 0 (length written))

-- each page has a place in each column, and an image has the number of its page
pub record AreColumns (written : List ℕ) (rec_lsns : List (Option ℕ)) (images : List (Option Page))
    (since : List (Option ℕ)) : Type 0 where
  pub few : length written ≤ MAX_PAGES
  pub rec_lsn_count : length rec_lsns ≡ length written
  pub image_count : length images ≡ length written
  pub since_count : length since ≡ length written
  pub numbers : (p : ℕ) → p < length images
      → IfSome (slice_index_or images p None) (λ q. q.number ≡ p)

-- and each of three columns has room for as many pages as a volume may have
pub record HaveRoom (written images since : ℕ) : Type 0 where
  pub in_written : MAX_PAGES ≤ written
  pub in_images : MAX_PAGES ≤ images
  pub in_since : MAX_PAGES ≤ since

-- no page from one number up to another is dirty
abbrev pub AreClean : List PageState → ℕ → ℕ → Type 0
AreClean states from to = (p : ℕ) → from ≤ p → p < to → (state_in states p).rec_lsn ≡ None

-- the entry of the first dirty page from a number on
pub record IsFirstDirty (states : List PageState) (from : ℕ) (e : DirtyPage) : Type 0 where
  pub later : from ≤ e.page
  pub within : e.page < length states
  pub is_dirty : (state_in states e.page).rec_lsn ≡ Some e.rec_lsn
  pub first : AreClean states from e.page

-- the entries of all dirty pages, in order of their numbers
abbrev pub dirty_in : List PageState → List DirtyPage
dirty_in states = filter_map
    (λ p. option_map (λ lsn. record { page = p; rec_lsn = lsn }) (state_in states p).rec_lsn)
    (range_with_len 0 (length states))
