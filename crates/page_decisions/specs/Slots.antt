-- How the decisions of a copy are held.
use Rattle.std.specs.Prelude.{ℕ, ◌≡◌, ◌+◌, ◌-◌, ◌^◌, ◌<◌, ◌≤◌, ◌==◌, List, [], ◌∷◌, length, map, slice_index_or}
use Rattle.std.specs.Prelude.{slice_set, Option, Some, None, nat_eq, if◌then◌else◌}
use Rattle.std.specs.Borrow.{Bor}
use Rattle.std.specs.List.{range_with_len}
use Rattle.std.specs.declared.alloc.Global.{Global}
use Rattle.std.specs.declared.boxed.Box.{Box}
use Rattle.page_core.specs.declared.page.Page.{Page}
use Rattle.page_core.specs.Page.{formatted}
use Rattle.page_decisions.specs.declared.slots.PlacedDecision.{PlacedDecision}
use Rattle.page_decisions.specs.declared.slots.PlacedDecision.TheVariants.{Undecided, Taken, Kept}
use Rattle.page_decisions.specs.Decisions.{PageDecision, undecided, taken, kept, decision_at, taken_count}
use Rattle.page_decisions.specs.Decisions.{undecided_count}

-- the pages in these places
abbrev pub values : List (Box Page Global) → List Page
values places = map (λ place. place.value) places

-- ---- a mark a page

-- what a mark of four bytes says
abbrev pub marked_by : ℕ → PlacedDecision
marked_by n = if n == 0 then Undecided else if n == 1 then Kept else Taken (n - 2)

-- what a mark says of its page, where these pages were taken
abbrev pub decision_by : List Page → PlacedDecision → PageDecision
decision_by pages Undecided = undecided
decision_by pages (Taken k) = taken (slice_index_or pages k (formatted 0))
decision_by pages Kept = kept

-- what the marks say of each page
abbrev pub decisions_by : List Page → List PlacedDecision → List PageDecision
decisions_by pages marks = map (decision_by pages) marks

-- the marks name pages below this one only
abbrev pub AreWithin : ℕ → List PlacedDecision → Type 0
AreWithin end marks = (p k : ℕ) → slice_index_or marks p Undecided ≡ Taken k → k < end

-- each mark names a page of its own number
abbrev pub AreInPlaceBy : List Page → List PlacedDecision → Type 0
AreInPlaceBy pages marks = (p k : ℕ) (d : Page) → slice_index_or marks p Undecided ≡ Taken k
    → (slice_index_or pages k d).number ≡ p

-- each of the pages was taken under its number
abbrev pub AreTaken : List Page → List PageDecision → Type 0
AreTaken pages decisions = (k : ℕ) (d : Page) → k < length pages
    → decision_at decisions (slice_index_or pages k d).number ≡ taken (slice_index_or pages k d)

-- there are no more pages than page numbers fit; those that were taken stand in a list, which has
-- room for all, and of so many nothing is decided
pub record IsMarked (marks : List PlacedDecision) (pages : List Page) (left room : ℕ) : Type 0 where
  pub few : length marks + 2 < 2 ^ 32
  pub left_is : left ≡ undecided_count (decisions_by pages marks)
  pub counted : length pages ≡ taken_count (decisions_by pages marks)
  pub within : AreWithin (length pages) marks
  pub placed : AreInPlaceBy pages marks
  pub stands : AreTaken pages (decisions_by pages marks)
  pub fits : length marks ≤ room

-- ---- the pages that were taken, in order of their numbers

-- a page is taken where it is among these, and else kept
abbrev pub taken_or_kept : List Page → ℕ → PageDecision
taken_or_kept [] p = kept
taken_or_kept (page ∷ pages) p =
    if nat_eq page.number p then taken page else taken_or_kept pages p

-- what is decided of so many pages
abbrev pub decisions_of : List Page → ℕ → List PageDecision
decisions_of pages count = map (taken_or_kept pages) (range_with_len 0 count)

-- the numbers rise
abbrev pub NumbersRise : List Page → Type 0
NumbersRise pages = (i j : ℕ) (d : Page) → i < j → j < length pages
    → (slice_index_or pages i d).number < (slice_index_or pages j d).number

-- the numbers rise, and are below the page count
pub record AreRising (pages : List Page) (count : ℕ) : Type 0 where
  pub few : count < 2 ^ 32
  pub rising : NumbersRise pages
  pub below : (k : ℕ) (d : Page) → k < length pages → (slice_index_or pages k d).number < count
  pub counted : length pages ≡ taken_count (decisions_of pages count)

-- ---- pages that are laid over others

-- the page that is lent, if there is one
abbrev pub page_list : Option (Bor Page) → List Page
page_list None = []
page_list (Some page) = page.now ∷ []

-- each page in the place of its number, if there is one
abbrev pub laid : List Page → List (List Page) → List (List Page)
laid [] old = old
laid (page ∷ pages) old = laid pages (slice_set old page.number (page ∷ []))

-- a page as it was taken, and where it was not, what is there
abbrev pub taken_over : PageDecision → List Page → List Page
taken_over undecided old = old
taken_over (taken page) old = page ∷ []
taken_over kept old = old

-- the pages that a copy took stand in their places, and in the others what was there
pub record AreLaidOver (decisions : List PageDecision) (old new : List (List Page)) : Type 0 where
  pub same_count : length new ≡ length old
  pub each : (p : ℕ) (d : List Page) → p < length old
      → slice_index_or new p d ≡ taken_over (decision_at decisions p) (slice_index_or old p d)
