-- Slots in which pages stand, in the order in which they came, with holes among them.
use Rattle.std.specs.Prelude.{ℕ, ◌≡◌, ◌+◌, ◌*◌, ◌<◌, ◌≤◌, ◌⊎◌, ◌++◌, List, [], ◌∷◌, length}
use Rattle.std.specs.Prelude.{Option, None, Some, IfSome, slice_index_or}
use Rattle.std.specs.List.{All, filter_map}
use Rattle.page_core.specs.declared.page.Page.{Page}
use Rattle.page_core.specs.declared.page.TheConstants.{MAX_PAGES}

-- what stands in each slot, a page or a hole; and how many more slots there is room for
pub record SlotsView : Type 0 where
  pub list : List (Option Page)
  pub spare : ℕ

-- the pages that stand in slots
abbrev pub pages_in : List (Option Page) → List Page
pages_in slots = filter_map (λ slot. slot) slots

-- the page of this number stands at this place, and in no other slot
pub record IsPlace (slots : List (Option Page)) (number place : ℕ) : Type 0 where
  pub here : (page : Page) × ((slice_index_or slots place None ≡ Some page)
      × (page.number ≡ number))
  pub only : (k : ℕ) (page : Page) → slice_index_or slots k None ≡ Some page
      → page.number ≡ number → k ≡ place

-- the slots are the old ones, maybe without a hole that was the last
abbrev pub IsTrimmed : List (Option Page) → List (Option Page) → Type 0
IsTrimmed old slots = (slots ≡ old) ⊎ (old ≡ slots ++ None ∷ [])

-- ---- how they are kept

-- the page has this number, and a volume may have such a page
abbrev pub IsUnder : ℕ → Page → Type 0
IsUnder number page = (page.number ≡ number) × (page.number < MAX_PAGES)

-- an entry has a number below a bound, and a page stands under its own
pub record IsUnderNumber (bound : ℕ) (entry : ℕ × Option Page) : Type 0 where
  pub below : entry.0 < bound
  pub own : IfSome entry.1 (IsUnder entry.0)

-- so the number behind the bound is free for one hole more
abbrev pub AreUnderNumbers : List (ℕ × Option Page) → Type 0
AreUnderNumbers entries = All (IsUnderNumber (MAX_PAGES + length entries)) entries

-- no hole has a number past those of all pages
abbrev pub ArePageNumbers : List (ℕ × Option Page) → Type 0
ArePageNumbers entries = All (IsUnderNumber MAX_PAGES) entries

-- so many slots have a page, and the holes are one more than these at most
pub record AreCounted (count : ℕ) (slots : List (Option Page)) : Type 0 where
  pub pages : count ≡ length (pages_in slots)
  pub holes : length slots ≤ 2 * length (pages_in slots) + 1
