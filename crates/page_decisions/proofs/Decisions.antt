-- What is decided of the pages of a copy, and how many were taken.
use Rattle.std.proofs.Common.{◌≡◌, ℕ, ◌+◌, ◌<◌, ◌≤◌, List, [], ◌∷◌, length, get_or, replicate, map, refl, ap}
use Rattle.std.proofs.Common.{◌∙◌, sym, arith, suc, zero, false, lit≤, ltb, cond, inl, inr}
use Rattle.std.specs.Prelude.{Some, None, slice_set}
use Rattle.std.specs.List.{sum_by, position_or_len}
use Rattle.std.proofs.lemmas.List.Concat.{length-flat_map}
use Rattle.std.proofs.lemmas.List.Sums.{sum_by-set, sum_by-cons, position_or_len_is, fails_before_first}
use Rattle.std.proofs.lemmas.Option.{none-some}
use Rattle.std.proofs.lemmas.List.Folds.{sum_by-replicate}
use Rattle.std.proofs.lemmas.Bool.{cases_lt, lt-ltb, le-ltb}
use Rattle.page_decisions.specs.Decisions.{PageDecision, undecided, taken, kept, page_of, taken_count, decision_at}
use Rattle.page_decisions.specs.Decisions.{AreDecidedBelow, is_undecided, least_undecided, to_decide, undecided_count}

-- how many pages a decision adds
abbrev weight : PageDecision → ℕ
weight d = length (page_of d)

weight_le : (d : PageDecision) → weight d ≤ 1
weight_le undecided = lit≤ tt
weight_le (taken page) = lit≤ tt
weight_le kept = lit≤ tt

pub count_is : (pages : List PageDecision) → taken_count pages ≡ sum_by weight pages
count_is pages = length-flat_map page_of pages

sum_within : (pages : List PageDecision) → sum_by weight pages ≤ length pages
sum_within [] = lit≤ tt
sum_within (d ∷ ds) = omega (arith, sum_by-cons weight d ds, weight_le d, sum_within ds)

-- no more pages are taken than there are
pub count_within : (pages : List PageDecision) → taken_count pages ≤ length pages
count_within pages = omega (arith, count_is pages, sum_within pages)

pub count_none : (n : ℕ) → taken_count (replicate n undecided) ≡ 0
count_none n = count_is (replicate n undecided) ∙ sum_by-replicate weight n undecided ∙ omega arith

-- one decision more
pub count_set : (pages : List PageDecision) (p : ℕ) (d : PageDecision) → p < length pages
    → decision_at pages p ≡ undecided
    → taken_count (slice_set pages p d) ≡ taken_count pages + length (page_of d)
count_set pages p d lt none =
    let before : weight (get_or pages p undecided) ≡ 0 = ap weight none in
    omega (
      arith,
      count_is (slice_set pages p d),
      count_is pages,
      sum_by-set weight pages p d undecided lt,
      before,
    )

-- one page less is left
pub left_set : (pages : List PageDecision) (p : ℕ) (d : PageDecision) → p < length pages
    → decision_at pages p ≡ undecided → to_decide d ≡ 0
    → undecided_count (slice_set pages p d) + 1 ≡ undecided_count pages
left_set pages p d lt none made =
    let before : to_decide (get_or pages p undecided) ≡ 1 = ap to_decide none in
    omega (arith, sum_by-set to_decide pages p d undecided lt, before, made)

-- nothing is decided of any page
pub left_none : (n : ℕ) → undecided_count (replicate n undecided) ≡ n
left_none n = sum_by-replicate to_decide n undecided ∙ omega arith

pub map-replicate : {X Y : Type 0} (f : X → Y) (n : ℕ) (x : X) → map f (replicate n x) ≡ replicate n (f x)
map-replicate f zero x = refl
map-replicate f (suc n) x = ap (λ ys. f x ∷ ys) (map-replicate f n x)

-- ---- the least page of which nothing is decided

is_decided : (d : PageDecision) → (¬ (d ≡ undecided)) → is_undecided d ≡ false
is_decided undecided some = absurd (some refl)
is_decided (taken page) some = refl
is_decided kept some = refl

first_is : (pages : List PageDecision) (n : ℕ) → n ≤ length pages → AreDecidedBelow n pages
    → (n < length pages → decision_at pages n ≡ undecided) → position_or_len is_undecided pages ≡ n
first_is pages n within before at =
    position_or_len_is is_undecided pages n undecided within (λ k lt. is_decided (decision_at pages k) (before k lt))
    (λ lt. ap is_undecided (at lt))

pub least_is : (pages : List PageDecision) (n : ℕ) → n < length pages → AreDecidedBelow n pages
    → decision_at pages n ≡ undecided → least_undecided pages ≡ Some n
least_is pages n lt before at =
    let first : position_or_len is_undecided pages ≡ n = first_is pages n (omega arith) before (λ _. at) in
    ap (λ k. cond (ltb k (length pages)) (Some k) None) first
    ∙ ap (λ b. cond b (Some n) None) (lt-ltb n (length pages) lt)

pub none_left : (pages : List PageDecision) → AreDecidedBelow (length pages) pages → least_undecided pages ≡ None
none_left pages all =
    let n = length pages in
    let first : position_or_len is_undecided pages
    ≡ n = first_is pages n (omega arith) all (λ lt. absurd (omega arith)) in
    ap (λ k. cond (ltb k n) (Some k) None) first ∙ ap (λ b. cond b (Some n) None) (le-ltb n n (omega arith))

-- ---- whether a page is left

-- where none is left, something is decided of each page
pub all_decided : (pages : List PageDecision) → undecided_count pages ≡ 0 → AreDecidedBelow (length pages) pages
all_decided pages none p lt e =
    omega (arith, sum_by-set to_decide pages p kept undecided lt, ap to_decide e, none)

adds_none : (d : PageDecision) → is_undecided d ≡ false → to_decide d ≡ 0
adds_none undecided e = cc
adds_none (taken page) e = refl
adds_none kept e = refl

count_of_none : (pages : List PageDecision)
    → ((p : ℕ) → p < length pages → is_undecided (get_or pages p undecided) ≡ false) → undecided_count pages ≡ 0
count_of_none [] all = refl
count_of_none (d ∷ ds) all =
    omega (
      arith,
      sum_by-cons to_decide d ds,
      adds_none d (all 0 (omega arith)),
      count_of_none ds (λ p lt. all (suc p) (omega arith)),
    )

-- where there is no least page, none is left
pub none_counted : (pages : List PageDecision) → least_undecided pages ≡ None → undecided_count pages ≡ 0
none_counted pages none = elim (cases_lt (position_or_len is_undecided pages) (length pages)) [
  | inl lt ↦ let n = position_or_len is_undecided pages in
      let some : least_undecided pages ≡ Some n = ap (λ b. cond b (Some n) None) (lt-ltb n (length pages) lt) in
      absurd (none-some n (sym none ∙ some))
  | inr past ↦ count_of_none pages (λ p lt. fails_before_first is_undecided pages p undecided (omega arith))
]
