-- What a store of pages says of its calls.
use Rattle.std.specs.Prelude.{ℕ, ◌≡◌, ◌⊎◌, List, Result, slice_set}
use Rattle.page_core.specs.declared.page.Page.{Page}
use Rattle.page_core.specs.Volume.{grown_to}
use Rattle.page_store.specs.declared.store.StoreFault.{StoreFault}

-- what a store says of one call of `read`: the store before it, the number, what it answered, and
-- the store after it
abbrev pub ReadCall : Type 0 → Type 1
ReadCall S = S → ℕ → Result Page StoreFault → S → Type 0

-- what it says of one call of `write`: the store before it, the number, the page, what it answered,
-- and the store after it
abbrev pub WriteCall : Type 0 → Type 1
WriteCall S = S → ℕ → Page → Result Unit StoreFault → S → Type 0

-- what it says of one call of `grow`: the store before it, the page count that was asked for, what
-- it answered, and the store after it
abbrev pub GrowCall : Type 0 → Type 1
GrowCall S = S → ℕ → Result Unit StoreFault → S → Type 0

-- of a write that failed: the page was stored at its number, or nothing was; every other page stays
abbrev pub StoresOrKeeps : List Page → ℕ → Page → List Page → Type 0
StoresOrKeeps old number page new = (new ≡ slice_set old number page) ⊎ (new ≡ old)

-- of a growth: the pages that were stored are the first ones, as they were, and each page behind
-- them is formatted
abbrev pub IsGrown : List Page → List Page → Type 0
IsGrown old new = (count : ℕ) × (new ≡ grown_to count old)
