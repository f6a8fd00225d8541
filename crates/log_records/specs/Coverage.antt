-- Which changes of a log a page has that was kept elsewhere meanwhile.
use Rattle.std.specs.Prelude.{ℕ, ◌≡◌, ◌<◌, ◌≤◌, ◌==◌, ◌/◌, nat_le, nat_lt, Bool, false, ◌&&◌, List}
use Rattle.std.specs.Prelude.{length, map, filter, take, Option, None, IfSome, slice_index}
use Rattle.std.specs.Prelude.{slice_index_or}
use Rattle.std.specs.List.{All, filter_map, range_with_len}
use Rattle.std.specs.Option.{option_map, option_map_or}
use Rattle.page_core.specs.declared.numbers.TheConstants.{LSN_STEP}
use Rattle.page_core.specs.declared.page.Page.{Page}
use Rattle.log_records.specs.declared.dirty_page.DirtyPage.{DirtyPage}
pub use Rattle.log_records.specs.DirtyPage.{entries_of}
use Rattle.log_records.specs.declared.record.Record.{Record}
use Rattle.log_records.specs.Image.{image, image_from}
use Rattle.log_records.specs.Record.{change_of, own_lsn}
use Rattle.log_records.specs.Least.{least}

-- the record changes this page
abbrev pub changes : ℕ → Record → Bool
changes number r = option_map_or (λ c. c.page == number) (change_of r) false

-- the LSNs of the records that change a page, the oldest first
abbrev pub changes_on : List Record → ℕ → List ℕ
changes_on rs number = map own_lsn (filter (changes number) rs)

-- the page is as the log made it at some moment
pub record IsPast (rs : List Record) (number : ℕ) (page : Page) : Type 0 where
  pub count : ℕ
  pub within : count ≤ length rs
  pub made : page ≡ image (take count rs) number

-- and it has each of its changes below an LSN
pub record Covers (rs : List Record) (number : ℕ) (page : Page) (bound : ℕ) : Type 0 where
  pub past : IsPast rs number page
  pub reached : All (λ lsn. lsn < bound → lsn ≤ page.lsn) (changes_on rs number)

-- the records of a log up to an LSN and with it
abbrev pub up_to : List Record → ℕ → List Record
up_to rs lsn = take (lsn / LSN_STEP) rs

-- a record is redone where it is at or above the redo point, and above the page's LSN
abbrev pub is_resumed : ℕ → ℕ → Record → Bool
is_resumed from lsn r = nat_le from (own_lsn r) && nat_lt lsn (own_lsn r)

-- a page after redo from a redo point on
abbrev pub resume : Page → List Record → ℕ → Page
resume page rs from = image_from page (filter (is_resumed from page.lsn) rs)

-- the RecLSN of a page whose last write had this LSN: of the changes above it, the LSN of the first
abbrev pub rec_lsn : List Record → ℕ → ℕ → Option ℕ
rec_lsn rs number written = least (filter (nat_lt written) (changes_on rs number))

-- ---- pages that are stored while the log goes on

-- a stored page is of the log's past, and not older than its last write
pub record IsStored (rs : List Record) (number : ℕ) (page : Page) (written : ℕ) : Type 0 where
  pub past : IsPast rs number page
  pub reached : written ≤ page.lsn

-- the image of a write in progress is of the log's past, and not older than the stored page
pub record IsWriting (rs : List Record) (number : ℕ) (stored image : Page) : Type 0 where
  pub past : IsPast rs number image
  pub newer : stored.lsn ≤ image.lsn

-- of each page: the stored one, with the LSN of its last write, and the image that is being written
pub record AreStored (rs : List Record) (stored : List Page) (written : List ℕ)
    (writing : List (Option Page)) : Type 0 where
  pub pages : (p : ℕ) (d : Page) → p < length stored
      → IsStored rs p (slice_index_or stored p d) (slice_index written p)
  pub images : (p : ℕ) (d : Page) → p < length stored
      → IfSome (slice_index_or writing p None) (IsWriting rs p (slice_index_or stored p d))

-- the dirty page table, in order of the pages' numbers: the pages with a change above the LSN of
-- their last write
abbrev pub dirty : List Record → List ℕ → List DirtyPage
dirty rs written = filter_map
    (λ p. option_map (λ lsn. record { page = p; rec_lsn = lsn })
    (rec_lsn rs p (slice_index written p)))
    (range_with_len 0 (length written))

-- the next dirty pages of a table, from a page number on: at most three
abbrev pub next_dirty : List DirtyPage → ℕ → List DirtyPage
next_dirty table from = take 3 (filter (λ e. nat_le from e.page) table)
