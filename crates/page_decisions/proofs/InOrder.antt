-- The decisions of a copy that holds only the pages that it took, in order of their numbers.
use Rattle.std.proofs.Common.{◌≡◌, ◌≢◌, ℕ, ◌+◌, ◌-◌, ◌^◌, ◌<◌, ◌≤◌, List, [], ◌∷◌, ◌++◌, length, get_or}
use Rattle.std.proofs.Common.{replicate, refl, sym, ap, ◌∙◌, arith, suc, zero, inl, inr, cond, eq-eqb}
use Rattle.std.proofs.lemmas.Bool.{cases_lt, ne_eqb}
use Rattle.std.proofs.lemmas.Bool.Decides.{eqb_tells}
use Rattle.std.proofs.lemmas.List.{append-nil, append_assoc, ext_get_or, get_or_append_left, get_or-append_right}
use Rattle.std.proofs.lemmas.List.{get_or_push, get_or-replicate, length-append, length-replicate, length_push}
use Rattle.std.proofs.lemmas.List.FromFn.{get_or-map-range_with_len, length-map-range_with_len, map-range_with_len_more}
use Rattle.page_core.specs.declared.page.Page.{Page}
use Rattle.page_core.specs.Page.{formatted}
use Rattle.page_decisions.specs.Decisions.{PageDecision, undecided, taken, kept, decision_at, taken_count, taken_pages}
use Rattle.page_decisions.specs.Slots.{AreRising, AreTaken, NumbersRise, decisions_of, taken_or_kept}
use Rattle.page_decisions.proofs.Laid.{taken_within}
use Rattle.page_decisions.proofs.OneMore.{taken_push, taken_push_kept}

-- ---- one page

here_is : (page : Page) (pages : List Page) (p : ℕ) → page.number ≡ p → taken_or_kept (page ∷ pages) p ≡ taken page
here_is page pages p is = ap (λ b. cond b (taken page) (taken_or_kept pages p)) (eq-eqb page.number p is)

other_is : (page : Page) (pages : List Page) (p : ℕ) → page.number ≢ p
    → taken_or_kept (page ∷ pages) p ≡ taken_or_kept pages p
other_is page pages p ne = ap (λ b. cond b (taken page) (taken_or_kept pages p)) (ne_eqb page.number p ne)

taken_at : (pages : List Page) (k p : ℕ) (d : Page) → NumbersRise pages → k < length pages
    → (get_or pages k d).number ≡ p → taken_or_kept pages p ≡ taken (get_or pages k d)
taken_at [] k p d rise lt is = absurd (omega arith)
taken_at (page ∷ pages) zero p d rise lt is = here_is page pages p is
taken_at (page ∷ pages) (suc k) p d rise lt is =
    let less = rise 0 (suc k) d (omega arith) lt in
    other_is page pages p (λ same. omega (arith, less, same, is))
    ∙ taken_at pages k p d (λ i j e below within. rise (suc i) (suc j) e (omega arith) (omega arith)) (omega arith) is

kept_at : (pages : List Page) (p : ℕ) (d : Page) → ((k : ℕ) → k < length pages → (get_or pages k d).number ≢ p)
    → taken_or_kept pages p ≡ kept
kept_at [] p d none = refl
kept_at (page ∷ pages) p d none =
    other_is page pages p (none 0 (omega arith)) ∙ kept_at pages p d (λ k lt. none (suc k) (omega arith))

found_at : (pages : List Page) (p : ℕ) (page : Page) → taken_or_kept pages p ≡ taken page
    → (k : ℕ) × (k < length pages) × ((d : Page) → (get_or pages k d).number ≡ p)
found_at [] p page e = absurd (not_taken e)
  where
    not_taken : ¬ (kept ≡ taken page)
    not_taken e = cc
found_at (x ∷ pages) p page e = elim (eqb_tells x.number p) [
  | inl same ↦ (0, omega arith, λ d. same.1)
  | inr ne ↦ let more = found_at pages p page (sym (other_is x pages p ne.1) ∙ e) in
      (suc more.0, omega (arith, more.1), λ d. more.2 d)
]

-- ---- each page

pub length_of : (pages : List Page) (count : ℕ) → length (decisions_of pages count) ≡ count
length_of pages count = length-map-range_with_len (taken_or_kept pages) 0 count

pub decision_of : (pages : List Page) (count p : ℕ) → p < count
    → decision_at (decisions_of pages count) p ≡ taken_or_kept pages p
decision_of pages count p lt = get_or-map-range_with_len (taken_or_kept pages) 0 count p p undecided lt (omega arith)

pub rising_taken : (pages : List Page) (count : ℕ) → AreRising pages count → AreTaken pages (decisions_of pages count)
rising_taken pages count rising k d lt =
    decision_of pages count (get_or pages k d).number (rising.below k d lt)
    ∙ taken_at pages k (get_or pages k d).number d rising.rising lt refl

pub rising_all : (pages : List Page) (count p : ℕ) (page : Page) → decision_at (decisions_of pages count) p ≡ taken page
    → (k : ℕ) × (k < length pages) × ((d : Page) → (get_or pages k d).number ≡ p)
rising_all pages count p page e =
    let lt : p < count = omega (arith, taken_within (decisions_of pages count) p page e, length_of pages count) in
    found_at pages p page (sym (decision_of pages count p lt) ∙ e)

-- the place of a page that is looked up
pub read_taken : (pages : List Page) (count k p : ℕ) (d : Page) → AreRising pages count
    → p < length (decisions_of pages count)
    → k < length pages → (get_or pages k d).number ≡ p
    → decision_at (decisions_of pages count) p ≡ taken (get_or pages k d)
read_taken pages count k p d rising lt below is =
    decision_of pages count p (omega (arith, length_of pages count)) ∙ taken_at pages k p d rising.rising below is

pub read_kept : (pages : List Page) (count k p : ℕ) (d : Page) → AreRising pages count
    → p < length (decisions_of pages count)
    → ((i : ℕ) → i < k → (get_or pages i d).number < p) → (k < length pages → p ≤ (get_or pages k d).number)
    → (k < length pages → (get_or pages k d).number ≢ p) → decision_at (decisions_of pages count) p ≡ kept
read_kept pages count k p d rising lt before at ne =
    decision_of pages count p (omega (arith, length_of pages count)) ∙ kept_at pages p d apart
  where
    apart : (i : ℕ) → i < length pages → (get_or pages i d).number ≢ p
    apart i below = elim (cases_lt i k) [
      | inl less ↦ let lower = before i less in λ same. omega (arith, same, lower)
      | inr le ↦ elim (cases_lt k i) [
        | inl past ↦ let some : k < length pages = omega arith in
            let least = at some in
            let rises = rising.rising k i d past below in
            λ same. omega (arith, same, least, rises)
        | inr here ↦ let place : i ≡ k = omega arith in
            let some : k < length pages = omega arith in
            λ same. ne some (ap (λ n. (get_or pages n d).number) (sym place) ∙ same)
      ]
    ]

-- ---- more pages are kept

pub kept_more : (pages : List Page) (count end : ℕ) → AreRising pages count → count ≤ end
    → decisions_of pages end ≡ decisions_of pages count ++ replicate (end - count) kept
kept_more pages count end rising le =
    let old = decisions_of pages count in
    let rest = replicate (end - count) kept in
    let wide : length (old ++ rest) ≡ end =
    omega (arith, length-append old rest, length_of pages count, length-replicate (end - count) kept) in
    ext_get_or undecided (decisions_of pages end) (old ++ rest) (omega (arith, wide, length_of pages end))
    (λ p lt. at p (omega (arith, length_of pages end)))
  where
    at : (p : ℕ) → p < end
        → decision_at (decisions_of pages end) p
        ≡ decision_at (decisions_of pages count ++ replicate (end - count) kept) p
    at p lt = elim (cases_lt p count) [
      | inl below ↦ decision_of pages end p lt ∙ sym (decision_of pages count p below)
          ∙ sym (get_or_append_left (decisions_of pages count) (replicate (end - count) kept) undecided p
          (omega (arith, length_of pages count)))
      | inr past ↦ decision_of pages end p lt
          ∙ kept_at pages p (formatted 0) (λ k below same.
          let lower = rising.below k (formatted 0) below in omega (arith, same, lower))
          ∙ sym (get_or-append_right (decisions_of pages count) (replicate (end - count) kept) count p undecided
          (length_of pages count) past ∙ get_or-replicate (end - count) (p - count) kept undecided (omega arith))
    ]

pub taken_kept : (n : ℕ) (pages : List PageDecision) → taken_pages (pages ++ replicate n kept) ≡ taken_pages pages
taken_kept zero pages = ap taken_pages (append-nil pages)
taken_kept (suc n) pages =
    ap taken_pages (sym (append_assoc pages (kept ∷ []) (replicate n kept)))
    ∙ taken_kept n (pages ++ kept ∷ []) ∙ taken_push_kept pages

pub rising_keep : (pages : List Page) (count end : ℕ) → AreRising pages count → count ≤ end → end < 2 ^ 32
    → AreRising pages end
rising_keep pages count end rising le few = record {
  few = few;
  rising = rising.rising;
  below = λ k d lt. let lower = rising.below k d lt in omega arith;
  counted = rising.counted ∙ ap length (sym (taken_kept (end - count) (decisions_of pages count)))
      ∙ ap taken_count (sym (kept_more pages count end rising le));
}

-- ---- a page more is taken

push_other : (pages : List Page) (x : Page) (p : ℕ) → x.number ≢ p
    → taken_or_kept (pages ++ x ∷ []) p ≡ taken_or_kept pages p
push_other [] x p ne = other_is x [] p ne
push_other (page ∷ pages) x p ne =
    elim (eqb_tells page.number p) [
      | inl same ↦ here_is page (pages ++ x ∷ []) p same.1 ∙ sym (here_is page pages p same.1)
      | inr other ↦ other_is page (pages ++ x ∷ []) p other.1 ∙ push_other pages x p ne
          ∙ sym (other_is page pages p other.1)
    ]

push_here : (pages : List Page) (x : Page) (p : ℕ) (d : Page) → x.number ≡ p
    → ((k : ℕ) → k < length pages → (get_or pages k d).number ≢ p) → taken_or_kept (pages ++ x ∷ []) p ≡ taken x
push_here [] x p d is none = here_is x [] p is
push_here (page ∷ pages) x p d is none =
    other_is page (pages ++ x ∷ []) p (none 0 (omega arith))
    ∙ push_here pages x p d is (λ k lt. none (suc k) (omega arith))

pub taken_more : (pages : List Page) (count : ℕ) (x : Page) → AreRising pages count → x.number ≡ count
    → decisions_of (pages ++ x ∷ []) (count + 1) ≡ decisions_of pages count ++ taken x ∷ []
taken_more pages count x rising is =
    map-range_with_len_more (taken_or_kept (pages ++ x ∷ [])) 0 count count (omega arith)
    ∙ ap (λ (ds : List PageDecision). ds ++ taken_or_kept (pages ++ x ∷ []) count ∷ []) same
    ∙ ap (λ (m : PageDecision). decisions_of pages count ++ m ∷ [])
    (push_here pages x count (formatted 0) is (λ k lt e.
    let lower = rising.below k (formatted 0) lt in omega (arith, e, lower)))
  where
    same : decisions_of (pages ++ x ∷ []) count ≡ decisions_of pages count
    same =
        ext_get_or undecided (decisions_of (pages ++ x ∷ []) count) (decisions_of pages count)
        (length_of (pages ++ x ∷ []) count ∙ sym (length_of pages count))
        (λ p lt. let below : p < count = omega (arith, length_of (pages ++ x ∷ []) count) in
        decision_of (pages ++ x ∷ []) count p below ∙ push_other pages x p (λ e. omega (arith, e, is))
        ∙ sym (decision_of pages count p below))

pub rising_take : (pages : List Page) (count : ℕ) (x : Page) → AreRising pages count → x.number ≡ count
    → count + 1 < 2 ^ 32 → AreRising (pages ++ x ∷ []) (count + 1)
rising_take pages count x rising is few = record {
  few = few;
  rising = λ i j d less lt. rises i j d less lt;
  below = λ k d lt. below k d lt;
  counted = omega (
    arith,
    length_push pages x,
    rising.counted,
    ap taken_count (taken_more pages count x rising is),
    ap length (taken_push (decisions_of pages count) (taken x)),
    length_push (taken_pages (decisions_of pages count)) x,
  );
}
  where
    at_old : (k : ℕ) (d : Page) → k < length pages → (get_or (pages ++ x ∷ []) k d).number < count
    at_old k d lt =
        let lower = rising.below k d lt in
        omega (arith, lower, ap (λ (y : Page). y.number) (get_or_append_left pages (x ∷ []) d k lt))

    at_new : (k : ℕ) (d : Page) → length pages ≡ k → (get_or (pages ++ x ∷ []) k d).number ≡ count
    at_new k d same = ap (λ (y : Page). y.number) (get_or_push pages x d k same) ∙ is

    below : (k : ℕ) (d : Page) → k < length (pages ++ x ∷ []) → (get_or (pages ++ x ∷ []) k d).number < count + 1
    below k d lt = elim (cases_lt k (length pages)) [
      | inl less ↦ let lower = at_old k d less in omega arith
      | inr past ↦ let same = at_new k d (omega (arith, length_push pages x)) in omega arith
    ]

    rises : (i j : ℕ) (d : Page) → i < j → j < length (pages ++ x ∷ [])
        → (get_or (pages ++ x ∷ []) i d).number < (get_or (pages ++ x ∷ []) j d).number
    rises i j d less lt = elim (cases_lt j (length pages)) [
      | inl old ↦ let lower = rising.rising i j d less old in
          omega (
            arith,
            lower,
            ap (λ (y : Page). y.number) (get_or_append_left pages (x ∷ []) d i (omega arith)),
            ap (λ (y : Page). y.number) (get_or_append_left pages (x ∷ []) d j old),
          )
      | inr past ↦ let same = at_new j d (omega (arith, length_push pages x)) in
          let lower = at_old i d (omega (arith, length_push pages x)) in
          omega arith
    ]

pub rising_none : AreRising [] 0
rising_none = record {
  few = omega arith;
  rising = λ i j d less lt. absurd (omega arith);
  below = λ k d lt. absurd (omega arith);
  counted = refl;
}
