-- Pages that are laid over others.
use Rattle.std.proofs.Common.{◌≡◌, ℕ, ◌<◌, List, [], ◌∷◌, ◌++◌, length, get_or, refl, sym, ap, ◌∙◌, arith, suc}
use Rattle.std.proofs.Common.{zero}
use Rattle.std.proofs.Common.{inl, inr}
use Rattle.std.specs.Prelude.{slice_set}
use Rattle.std.proofs.lemmas.Bool.{cases_lt}
use Rattle.std.proofs.lemmas.Bool.Decides.{eqb_tells}
use Rattle.std.proofs.lemmas.Grind.{get_or-set_at}
use Rattle.std.proofs.lemmas.List.{get_or-set_other, get_or_past, length-set}
use Rattle.page_core.specs.declared.page.Page.{Page}
use Rattle.page_decisions.specs.Decisions.{PageDecision, undecided, taken, kept, decision_at}
use Rattle.page_decisions.specs.Slots.{AreLaidOver, AreTaken, laid, taken_over}

pub laid_push : (pages : List Page) (old : List (List Page)) (page : Page)
    → laid (pages ++ page ∷ []) old ≡ slice_set (laid pages old) page.number (page ∷ [])
laid_push [] old page = refl
laid_push (x ∷ pages) old page = laid_push pages (slice_set old x.number (x ∷ [])) page

pub length_laid : (pages : List Page) (old : List (List Page)) → length (laid pages old) ≡ length old
length_laid [] old = refl
length_laid (x ∷ pages) old =
    length_laid pages (slice_set old x.number (x ∷ [])) ∙ length-set old x.number (x ∷ [])

pub taken_within : (ds : List PageDecision) (p : ℕ) (page : Page) → decision_at ds p ≡ taken page → p < length ds
taken_within ds p page e = elim (cases_lt p (length ds)) [
  | inl lt ↦ lt
  | inr past ↦ absurd (not_taken (sym (get_or_past ds p undecided past) ∙ e))
]
  where
    not_taken : ¬ (undecided ≡ taken page)
    not_taken e = cc

after : (ds : List PageDecision) (old : List (List Page)) (page : Page) (p : ℕ) (d x : List Page) → p < length old
    → decision_at ds page.number ≡ taken page → get_or old p d ≡ taken_over (decision_at ds p) x
    → get_or (slice_set old page.number (page ∷ [])) p d ≡ taken_over (decision_at ds p) x
after ds old page p d x lt is here = elim (eqb_tells p page.number) [
  | inl same ↦ get_or-set_at old page.number p (page ∷ []) d same.1 (omega (arith, same.1))
      ∙ sym (ap (λ (m : PageDecision). taken_over m x) (ap (decision_at ds) same.1 ∙ is))
  | inr other ↦ get_or-set_other old page.number p (page ∷ []) d other.1 ∙ here
]

-- what is right stays
still : (ds : List PageDecision) (pages : List Page) (old : List (List Page)) (p : ℕ) (d x : List Page) → AreTaken pages ds → p < length old
    → get_or old p d ≡ taken_over (decision_at ds p) x → get_or (laid pages old) p d ≡ taken_over (decision_at ds p) x
still ds [] old p d x stands lt here = here
still ds (page ∷ pages) old p d x stands lt here =
    still ds pages (slice_set old page.number (page ∷ [])) p d x (λ k e below. stands (suc k) e (omega arith))
    (omega (arith, length-set old page.number (page ∷ []))) (after ds old page p d x lt (stands 0 page (omega arith)) here)

-- a page that was taken is put in its place
put : (ds : List PageDecision) (pages : List Page) (old : List (List Page)) (k p : ℕ) (e : Page) (d x : List Page)
    → AreTaken pages ds → p < length old → k < length pages → (get_or pages k e).number ≡ p
    → get_or (laid pages old) p d ≡ taken_over (decision_at ds p) x
put ds [] old k p e d x stands lt below is = absurd (omega arith)
put ds (page ∷ pages) old zero p e d x stands lt below is =
    still ds pages (slice_set old page.number (page ∷ [])) p d x (λ k e lt. stands (suc k) e (omega arith))
    (omega (arith, length-set old page.number (page ∷ [])))
    (get_or-set_at old page.number p (page ∷ []) d (sym is) (omega (arith, is))
    ∙ sym (ap (λ (m : PageDecision). taken_over m x) (ap (decision_at ds) (sym is) ∙ stands 0 page (omega arith))))
put ds (page ∷ pages) old (suc k) p e d x stands lt below is =
    put ds pages (slice_set old page.number (page ∷ [])) k p e d x (λ k e lt. stands (suc k) e (omega arith))
    (omega (arith, length-set old page.number (page ∷ []))) (omega arith) is

pub laid_over : (ds : List PageDecision) (pages : List Page) (old : List (List Page)) → AreTaken pages ds
    → ((p : ℕ) (page : Page) → decision_at ds p ≡ taken page
    → (k : ℕ) × (k < length pages) × ((d : Page) → (get_or pages k d).number ≡ p))
    → AreLaidOver ds old (laid pages old)
laid_over ds pages old stands all = record {
  same_count = length_laid pages old;
  each = λ p d lt. at_page p d lt (decision_at ds p) refl;
}
  where
    at_page : (p : ℕ) (d : List Page) → p < length old → (dec : PageDecision) → decision_at ds p ≡ dec
        → get_or (laid pages old) p d ≡ taken_over (decision_at ds p) (get_or old p d)
    at_page p d lt undecided e =
        still ds pages old p d (get_or old p d) stands lt
        (sym (ap (λ (m : PageDecision). taken_over m (get_or old p d)) e))
    at_page p d lt (taken page) e =
        let found = all p page e in
        put ds pages old found.0 p page d (get_or old p d) stands lt found.1 (found.2 page)
    at_page p d lt kept e =
        still ds pages old p d (get_or old p d) stands lt
        (sym (ap (λ (m : PageDecision). taken_over m (get_or old p d)) e))
