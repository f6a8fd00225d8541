-- What is decided of the pages of a volume as they are copied.
use Rattle.std.specs.Prelude.{ℕ, ◌≡◌, ◌<◌, Bool, true, false, List, [], ◌∷◌, length}
use Rattle.std.specs.Prelude.{slice_index_or, Option}
use Rattle.std.specs.List.{flat_map, position, sum_by}
use Rattle.page_core.specs.declared.page.Page.{Page}

-- of a page: nothing is decided yet, or the copy took it as it was stored, or it keeps what its
-- parent has
pub data PageDecision : Type 0 where
  undecided : PageDecision
  taken : (page : Page) → PageDecision
  kept : PageDecision

-- what is decided of a page
abbrev pub decision_at : List PageDecision → ℕ → PageDecision
decision_at pages p = slice_index_or pages p undecided

abbrev pub is_undecided : PageDecision → Bool
is_undecided undecided = true
is_undecided (taken page) = false
is_undecided kept = false

-- the least page of which nothing is decided
abbrev pub least_undecided : List PageDecision → Option ℕ
least_undecided pages = position is_undecided pages

-- 1 for a page of which nothing is decided
abbrev pub to_decide : PageDecision → ℕ
to_decide undecided = 1
to_decide (taken page) = 0
to_decide kept = 0

-- of how many pages nothing is decided
abbrev pub undecided_count : List PageDecision → ℕ
undecided_count pages = sum_by to_decide pages

-- the page, where it was taken
abbrev pub page_of : PageDecision → List Page
page_of undecided = []
page_of (taken page) = page ∷ []
page_of kept = []

-- the pages that were taken, in order of their numbers
abbrev pub taken_pages : List PageDecision → List Page
taken_pages pages = flat_map page_of pages

-- how many pages were taken
abbrev pub taken_count : List PageDecision → ℕ
taken_count pages = length (taken_pages pages)

-- each taken page stands at its own number
abbrev pub AreInPlace : List PageDecision → Type 0
AreInPlace pages = (p : ℕ) (page : Page) → decision_at pages p ≡ taken page → page.number ≡ p

-- of each page below this number something is decided
abbrev pub AreDecidedBelow : ℕ → List PageDecision → Type 0
AreDecidedBelow end pages = (p : ℕ) → p < end → ¬ (decision_at pages p ≡ undecided)
