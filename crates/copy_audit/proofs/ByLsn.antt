-- The pages of a row, looked at one after another.
use Rattle.std.proofs.Common.{◌≡◌, ◌≢◌, ◌∙◌, ℕ, ◌+◌, ◌<◌, List, [], ◌∷◌, ◌++◌, length, get_or, set, map, refl, sym, ap, subst}
use Rattle.std.proofs.Common.{arith, inl, inr}
use Rattle.std.specs.Prelude.{Option, None, Some}
use Rattle.std.specs.List.{All, Contains}
use Rattle.std.proofs.lemmas.Bool.{cases_eq, cases_lt}
use Rattle.std.proofs.lemmas.List.Elements.{All-push, Contains-append_left, Contains-push}
use Rattle.std.proofs.lemmas.List.{get_or_default, get_or-map, length-map, get_or-set_other, get_or-set_same, length-set}
use Rattle.page_core.specs.declared.page.Page.{Page}
use Rattle.log_records.specs.declared.record.Record.{Record}
use Rattle.copy_audit.specs.declared.by_lsn.Due.{Due}
use Rattle.copy_audit.specs.declared.reach.Reach.{Reach}
use Rattle.copy_audit.specs.ByLsn.{AreSeen, HavePages, IsSeenIn}
use Rattle.copy_audit.specs.Trace.{IsReach}

-- ---- which places of a row have a page

pub no_pages : (places : List (Option Page)) → HavePages places 0 []
no_pages places = record {
  within = λ k d lt. absurd (omega arith);
  all = λ k page lt is. absurd (omega arith);
}

pub no_place : (place : Option Page) → ((page : Page) → place ≡ Some page → ⊥) → place ≡ None
no_place None none = refl
no_place (Some page) none = absurd (none page refl)

below_more : (n : ℕ) (xs : List ℕ) → All (λ k. k < n) xs → All (λ k. k < n + 1) xs
below_more n xs all = λ k d lt. let here = all k d lt in omega arith

pub no_more_pages : (row : List (Option Page)) (n : ℕ) (places : List ℕ) → HavePages row n places
    → get_or row n None ≡ None → HavePages row (n + 1) places
no_more_pages row n places have none = record {
  within = below_more n places have.within;
  all = λ k page lt is. elim (cases_lt k n) [
    | inl less ↦ have.all k page less is
    | inr past ↦
        let same : k ≡ n = omega arith in
        let both : None ≡ Some page = sym none ∙ ap (λ (j : ℕ). get_or row j None) (sym same) ∙ is in
        cc
  ];
}

pub one_more_page : (row : List (Option Page)) (n : ℕ) (places : List ℕ) → HavePages row n places
    → HavePages row (n + 1) (places ++ n ∷ [])
one_more_page row n places have = record {
  within = All-push (λ k. k < n + 1) places n (below_more n places have.within) (omega arith);
  all = λ k page lt is. elim (cases_lt k n) [
    | inl less ↦ Contains-append_left places (n ∷ []) k (have.all k page less is)
    | inr past ↦
        let same : n ≡ k = omega arith in
        subst (Contains (places ++ n ∷ [])) same (Contains-push places n)
  ];
}

-- the place of the next page that is looked at
pub record IsPlaceAt (row : List (Option Page)) (n : ℕ) (due : List Due) (i place : ℕ) : Type 0 where
  pub within : place < n
  pub is : place ≡ get_or (map (λ (it : Due). it.member) due) i 0

pub place_at : (row : List (Option Page)) (n : ℕ) (due : List Due) (i : ℕ) (it : Due)
    → HavePages row n (map (λ (it : Due). it.member) due) → i < length due → it ≡ get_or due i it
    → IsPlaceAt row n due i it.member
place_at row n due i it have lt at =
    let f : Due → ℕ = λ it. it.member in
    let is : it.member ≡ get_or (map f due) i 0 = ap f at ∙ sym (get_or-map f due i it 0 lt) in
    record {
      within = let here = have.within i 0 (omega (arith, length-map due f, lt)) in omega (arith, here, is);
      is = is;
    }

pub no_reach : (place : Option Reach) → ((reach : Reach) → place ≡ Some reach → ⊥) → place ≡ None
no_reach None none = refl
no_reach (Some reach) none = absurd (none reach refl)

-- ---- what is seen of them

-- what was seen so far of a place in a row: how far its page reaches, if it was looked at
abbrev pub IsRightIn : List Record → ℕ → Option Page → Option Reach → Type 0
IsRightIn rs number place None = Unit {0}
IsRightIn rs number None (Some reach) = ⊥
IsRightIn rs number (Some page) (Some reach) = IsReach rs number page reach

-- of these members so many were looked at, the first ones
pub record AreLooked (rs : List Record) (number : ℕ) (row : List (Option Page)) (members : List ℕ) (i : ℕ)
    (seen : List (Option Reach)) : Type 0 where
  pub count : length seen ≡ length row
  pub right : (k : ℕ) → k < length row → IsRightIn rs number (get_or row k None) (get_or seen k None)
  pub first : (j : ℕ) (page : Page) → j < i → j < length members → get_or row (get_or members j 0) None ≡ Some page
      → get_or seen (get_or members j 0) None ≢ None

pub looked_next : (rs : List Record) (number : ℕ) (row : List (Option Page)) (members : List ℕ) (i m : ℕ)
    (seen : List (Option Reach)) (page : Page) (reach : Reach) → AreLooked rs number row members i seen
    → m ≡ get_or members i 0 → m < length row → get_or row m None ≡ Some page → IsReach rs number page reach
    → AreLooked rs number row members (i + 1) (set seen m (Some reach))
looked_next rs number row members i m seen page reach old is within at right =
    let there : m < length seen = omega (arith, old.count, within) in
    let here : get_or (set seen m (Some reach)) m None ≡ Some reach = get_or-set_same seen m (Some reach) None there in
    record {
      count = length-set seen m (Some reach) ∙ old.count;
      right = λ k lt. elim (cases_eq k m) [
        | inl e ↦
            subst (λ (n : ℕ). IsRightIn rs number (get_or row n None) (get_or (set seen m (Some reach)) n None)) (sym e)
            (subst (λ (s : Option Reach). IsRightIn rs number (get_or row m None) s) (sym here)
            (subst (λ (p : Option Page). IsRightIn rs number p (Some reach)) (sym at) right))
        | inr other ↦
            subst (λ (s : Option Reach). IsRightIn rs number (get_or row k None) s)
            (sym (get_or-set_other seen m k (Some reach) None other)) (old.right k lt)
      ];
      first = λ j page lt below has none. elim (cases_eq (get_or members j 0) m) [
        | inl e ↦
            let now : Some reach ≡ None =
            sym here ∙ ap (λ (n : ℕ). get_or (set seen m (Some reach)) n None) (sym e) ∙ none in
            cc
        | inr other ↦ elim (cases_lt j i) [
          | inl less ↦
              old.first j page less below has (sym (get_or-set_other seen m (get_or members j 0) (Some reach) None other) ∙ none)
          | inr past ↦
              let same : j ≡ i = omega arith in
              absurd (other (ap (λ (n : ℕ). get_or members n 0) same ∙ sym is))
        ]
      ];
    }

pub looked_past : (rs : List Record) (number : ℕ) (row : List (Option Page)) (members : List ℕ) (i m : ℕ)
    (seen : List (Option Reach)) → AreLooked rs number row members i seen → m ≡ get_or members i 0
    → get_or row m None ≡ None → AreLooked rs number row members (i + 1) seen
looked_past rs number row members i m seen old is none = record {
  count = old.count;
  right = old.right;
  first = λ j page lt below has. elim (cases_lt j i) [
    | inl less ↦ old.first j page less below has
    | inr past ↦
        let same : i ≡ j = omega arith in
        let both : None ≡ Some page = sym none ∙ ap (λ (n : ℕ). get_or row n None) (is ∙ ap (λ (n : ℕ). get_or members n 0) same) ∙ has in
        cc
  ];
}

pub none_looked : (rs : List Record) (number : ℕ) (row : List (Option Page)) (members : List ℕ) (seen : List (Option Reach))
    → length seen ≡ length row → ((k : ℕ) → k < length row → get_or seen k None ≡ None)
    → AreLooked rs number row members 0 seen
none_looked rs number row members seen count none = record {
  count = count;
  right = λ k lt. subst (λ (s : Option Reach). IsRightIn rs number (get_or row k None) s) (sym (none k lt)) tt;
  first = λ j page lt below. absurd (omega arith);
}

place_seen : (rs : List Record) (number : ℕ) (place : Option Page) (seen : Option Reach) → IsRightIn rs number place seen
    → ((page : Page) → place ≡ Some page → seen ≢ None) → IsSeenIn rs number place seen
place_seen rs number None None right some = refl
place_seen rs number None (Some reach) right some = absurd right
place_seen rs number (Some page) None right some = some page refl refl
place_seen rs number (Some page) (Some reach) right some = right

pub all_looked : (rs : List Record) (number : ℕ) (row : List (Option Page)) (members : List ℕ) (i : ℕ)
    (seen : List (Option Reach)) → AreLooked rs number row members i seen → HavePages row (length row) members → length members ≡ i
    → AreSeen rs number row seen
all_looked rs number row members i seen looked have all = record {
  count = looked.count;
  each = λ k lt. place_seen rs number (get_or row k None) (get_or seen k None) (looked.right k lt) (λ page is none.
      let at = have.all k page lt is in
      let j = at.0 in
      let there : get_or members j 0 ≡ k = get_or_default members j 0 k at.1 ∙ at.2 in
      looked.first j page (omega (arith, all, at.1)) at.1 (ap (λ (n : ℕ). get_or row n None) there ∙ is) (ap (λ (n : ℕ). get_or seen n None) there ∙ none));
}
