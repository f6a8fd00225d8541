-- What the seats of page claims know, the rule of the word, and the three kinds of step.
use Rattle.std.specs.Prelude.{◌≡◌, ℕ, ◌+◌, ◌-◌, ◌^◌, ◌<◌, ◌≤◌, ◌==◌, true, false, cond, ◌||◌}
use Rattle.std.specs.Prelude.{List, [], ◌∷◌, ◌++◌, length, min, slice_index, count_by}
use Rattle.std.specs.List.{sum_by, flat_map, range_with_len}
use mathlib.Core.Option.{some}
use lib.ListN.{get_elem?}
use Rattle.atomic_table.specs.Table.{State, Me, Step}
use Rattle.page_claim.specs.declared.rule.ClaimTerms.{ClaimTerms}
use Rattle.page_claim.specs.declared.rule.ClaimView.{ClaimView}

-- how often a page stands in a list of pages
abbrev pub times : ℕ → List ℕ → ℕ
times page pages = count_by (λ other. other == page) pages

-- the pages below a number, in their order
abbrev pub pages_below : ℕ → List ℕ
pages_below number = range_with_len 0 number

-- the pages of all lists together
abbrev pub drawn : List ClaimView → List ℕ
drawn views = flat_map (λ view. view.pages) views

-- for how many workers the views stand
abbrev pub weight_of : List ClaimView → ℕ
weight_of views = sum_by (λ view. view.weight) views

-- for how many workers it stands that have no more to claim
abbrev pub ended_weight : ClaimView → ℕ
ended_weight view = cond view.ended view.weight 0

-- it holds of each view
abbrev pub EachView : List ClaimView → (ClaimView → Type 0) → Type 0
EachView views P = (id : ℕ) (view : ClaimView) → get_elem? views id ≡ some view → P view

-- what the word and the views of all seats are, between any two steps
pub record KeepsClaims (terms : ClaimTerms) (word : ℕ) (views : List ClaimView) : Type 0 where
  pub bounded : terms.count + terms.workers < 2 ^ 63
  -- each page below the word stands in the lists, once
  pub each_once : (page : ℕ)
      → times page (drawn views) ≡ times page (pages_below (min word terms.count))
  -- who was told that no page is left made a claim past the last page
  pub told : EachView views (λ view. view.ended ≡ true → terms.count < word)
  -- so the word does not wrap
  pub few : word ≤ terms.count + sum_by ended_weight views
  pub workers : weight_of views ≡ terms.workers
  pub idle : EachView views (λ view. view.weight ≡ 0 → view.pages ≡ [])
  pub counted : EachView views (λ view. 0 < view.weight → view.count ≡ terms.count)

abbrev pub IsFair : ClaimTerms → State (Unit {0}) ClaimView → Type 0
IsFair terms state =
    (length state.words ≡ 1) × KeepsClaims terms (slice_index state.words 0) state.views

-- a seat for so many workers, before its first claim
abbrev pub new_view : ℕ → ℕ → ClaimView
new_view count workers = record { count = count; weight = workers; pages = []; ended = false }

abbrev pub first_view : ClaimTerms → ClaimView
first_view terms = new_view terms.count terms.workers

-- the view, with a page more
abbrev pub with_page : ClaimView → ℕ → ClaimView
with_page view page = record view { pages = view.pages ++ page ∷ [] }

-- the view of who was told that no page is left
abbrev pub told_none : ClaimView → ClaimView
told_none view = record view { ended = true }

-- a seat of the table: its view, and the slots that it holds, which are none
abbrev pub SeatState : Type 0
SeatState = Me (Unit {0}) ClaimView

-- a claim that found this number in the word
pub record IsClaim (step : Step (Unit {0})) (before : SeatState) (found : ℕ) (after : SeatState)
    : Type 0 where
  pub slots : after.1 ≡ before.1
  pub page : found < before.0.count → after.0 ≡ with_page before.0 found
  pub none : before.0.count ≤ found → after.0 ≡ told_none before.0

-- a split: what the seat keeps, and what it gives
abbrev pub one_less : ClaimView → ClaimView
one_less view = record view { weight = view.weight - 1 }

abbrev pub one_worker : ClaimView → ClaimView
one_worker view = new_view view.count 1

-- a join: what the seat has then, and what is left to the other
abbrev pub together : ClaimView → ClaimView → ClaimView
together view other = record {
  count = view.count;
  weight = view.weight + other.weight;
  pages = view.pages ++ other.pages;
  ended = view.ended || other.ended;
}

abbrev pub spent_view : ClaimView
spent_view = new_view 0 0
