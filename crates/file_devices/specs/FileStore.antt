-- A page store on a file.
use Rattle.std.specs.Prelude.{ℕ, ◌≡◌, ◌+◌, ◌-◌, ◌*◌, ◌↔◌, Bool, IsTrue, List, [], ◌∷◌, ◌++◌, length}
use Rattle.std.specs.Prelude.{map, take, slice_get, slice_set, Some}
use Rattle.std.specs.Prelude.{Result, IfOk, OnOk, OnErr, is_ok}
use Rattle.std.specs.List.{range_with_len}
use Rattle.page_core.specs.declared.page.Page.{Page}
use Rattle.page_core.specs.declared.page.TheConstants.{PAGE_BYTES}
use Rattle.page_core.specs.Page.{formatted, page_bytes}
use Rattle.page_core.specs.Volume.{grown_to}
use Rattle.page_store.specs.declared.store.StoreFault.{StoreFault}
use Rattle.file_devices.specs.declared.calls.FileCall.{FileCall}
use Rattle.file_devices.specs.declared.calls.Request.{Request}
use Rattle.file_devices.specs.declared.calls.Request.TheVariants.{Read, SetLen, Write}
use Rattle.file_devices.specs.Calls.{call, done, failed}

-- the pages that count as stored, the calls that were made of the file, and how often the store has
-- failed
pub record FiledPages : Type 0 where
  pub pages : List Page
  pub calls : List FileCall
  pub failures : ℕ

-- the file is to have a page at its place: page k at 512 k
abbrev pub page_write : Page → Request
page_write page = Write (PAGE_BYTES * page.number) (page_bytes page)

-- each of these pages was written, in order
abbrev pub writes_of : List Page → List FileCall
writes_of pages = map (λ page. done (page_write page)) pages

-- the formatted pages from one number up to another
abbrev pub formatted_between : ℕ → ℕ → List Page
formatted_between from to = map formatted (range_with_len from (to - from))

-- the first of these pages were written; then the write of the next one failed, and the file was
-- asked for no more
pub record WritesFail (old : List FileCall) (pages : List Page) (new : List FileCall) : Type 0 where
  pub count : ℕ
  pub next : Page
  pub there : slice_get pages count ≡ Some next
  pub calls : new ≡ old ++ writes_of (take count pages) ++ failed (page_write next) ∷ []

-- the file was to be emptied and to get these pages, and a call failed
pub data FormatFails (pages : List Page) (calls : List FileCall) : Type 0 where
  not_emptied : calls ≡ failed (SetLen 0) ∷ [] → FormatFails pages calls
  not_written : WritesFail (done (SetLen 0) ∷ []) pages calls → FormatFails pages calls

-- what comes of a look at a page: the file was asked for as many bytes as a page has, at its place,
-- and for nothing else; it tells whether the file gave them and they are the page's
pub record Looks (old : List FileCall) (page : Page) (result : Bool) (new : List FileCall) : Type 0
  where
    pub given : List ℕ
    pub is_done : Bool
    pub count : length given ≡ PAGE_BYTES
    pub calls : new ≡ old ++ call (Read (PAGE_BYTES * page.number) given) is_done ∷ []
    pub same : IsTrue result ↔ (IsTrue is_done × (given ≡ page_bytes page))

-- what comes of a read: the file is looked at, and the stored page is answered just where the file
-- has it
pub record FileReads (old : FiledPages) (number : ℕ) (result : Result Page StoreFault)
    (new : FiledPages) : Type 0 where
  pub page : Page
  pub there : slice_get old.pages number ≡ Some page
  pub look : Looks old.calls page (is_ok result) new.calls
  pub found : IfOk result (λ it. it ≡ page)
  pub same : new.pages ≡ old.pages
  pub no_failure : OnOk result (new.failures ≡ old.failures)
  pub failure : OnErr result (new.failures ≡ old.failures + 1)

-- what comes of a write: the file was asked to have the page at its place, and for nothing else; it
-- counts as stored just where the file answered so
pub record FileWrites (old : FiledPages) (number : ℕ) (page : Page)
    (result : Result Unit StoreFault) (new : FiledPages) : Type 0 where
  pub calls : new.calls ≡ old.calls ++ call (page_write page) (is_ok result) ∷ []
  pub stored : OnOk result (new.pages ≡ slice_set old.pages number page)
  pub kept : OnErr result (new.pages ≡ old.pages)
  pub no_failure : OnOk result (new.failures ≡ old.failures)
  pub failure : OnErr result (new.failures ≡ old.failures + 1)

-- what comes of a growth: the file was asked to have each page that is added, in order, until it
-- failed; they count as stored just where it has them all
pub record FileGrows (old : FiledPages) (count : ℕ) (result : Result Unit StoreFault)
    (new : FiledPages) : Type 0 where
  pub ok : OnOk result
      (new.calls ≡ old.calls ++ writes_of (formatted_between (length old.pages) count))
  pub err : OnErr result
      (WritesFail old.calls (formatted_between (length old.pages) count) new.calls)
  pub grown : OnOk result (new.pages ≡ grown_to count old.pages)
  pub kept : OnErr result (new.pages ≡ old.pages)
  pub no_failure : OnOk result (new.failures ≡ old.failures)
  pub failure : OnErr result (new.failures ≡ old.failures + 1)
