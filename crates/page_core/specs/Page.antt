-- A page, the redo of a change on it, and its bytes.
use Rattle.std.specs.Prelude.{ℕ, ◌≡◌, ◌<◌, ◌^◌, ◌%◌, List, length, ◌++◌, slice_index, slice_set}
use Rattle.std.specs.Prelude.{replicate}
use Rattle.std.specs.List.{flat_map, AllByRecursion}
use Rattle.std.specs.Int.{w32, w64, to_le_bytes}
use Rattle.page_core.specs.declared.change.Change.{Change}
use Rattle.page_core.specs.declared.numbers.TheConstants.{LSN_STEP}
use Rattle.page_core.specs.declared.page.Page.{Page}
use Rattle.page_core.specs.declared.page.TheConstants.{FORMAT, MAX_PAGES, SLOTS}
use Rattle.page_core.specs.Change.{changed}

-- a page as a new volume has it
unfoldable pub formatted : ℕ → Page
formatted number = record { number = number; lsn = 0; slots = replicate SLOTS 0 }

-- redo: the slot has the changed number, and the page the LSN of the record
abbrev pub put : Page → ℕ → ℕ → Change → Page
put page lsn slot change = record page {
  lsn = lsn;
  slots = slice_set page.slots slot (changed change (slice_index page.slots slot));
}

-- the page's number, the format 1, its LSN and its slots, each with the lowest byte first
unfoldable pub page_bytes : Page → List ℕ
page_bytes page =
    to_le_bytes w32 page.number ++ to_le_bytes w32 FORMAT ++ to_le_bytes w64 page.lsn
    ++ flat_map (to_le_bytes w64) page.slots

-- a page that a volume may have: only such a page has a spelling
pub record IsPage (page : Page) : Type 0 where
  pub number : page.number < MAX_PAGES
  pub lsn : page.lsn < 2 ^ 64
  pub at_record : page.lsn % LSN_STEP ≡ 0
  pub count : length page.slots ≡ SLOTS
  pub slots : AllByRecursion (λ n. n < 2 ^ 64) page.slots

-- the bytes are the one spelling of the page
pub record SpellsPage (page : Page) (bytes : List ℕ) : Type 0 where
  pub valid : IsPage page
  pub spelled : bytes ≡ page_bytes page

-- the pages of a volume, one after another
abbrev pub volume_bytes : List Page → List ℕ
volume_bytes pages = flat_map page_bytes pages
