-- The calls of a store in memory, which never fails.
use Rattle.std.specs.Prelude.{ℕ, ◌≡◌, List, Some, Result, IsOk, IsOkAnd, slice_get, slice_set}
use Rattle.page_core.specs.declared.page.Page.{Page}
use Rattle.page_core.specs.Volume.{grown_to}
use Rattle.page_store.specs.declared.store.StoreFault.{StoreFault}

-- what comes of a read: the stored page
pub record Reads (old : List Page) (number : ℕ) (result : Result Page StoreFault)
    (new : List Page) : Type 0 where
  pub found : IsOkAnd result (λ page. slice_get old number ≡ Some page)
  pub same : new ≡ old

-- what comes of a write: the page is stored
pub record Writes (old : List Page) (number : ℕ) (page : Page) (result : Result Unit StoreFault)
    (new : List Page) : Type 0 where
  pub ok : IsOk result
  pub stored : new ≡ slice_set old number page

-- what comes of a growth: the volume has so many pages, or more where it had more
pub record Grows (old : List Page) (count : ℕ) (result : Result Unit StoreFault) (new : List Page)
    : Type 0 where
  pub ok : IsOk result
  pub grown : new ≡ grown_to count old
