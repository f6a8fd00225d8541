-- Filters of lists, and what one more element changes.
use Rattle.std.proofs.Common.{◌≡◌, ◌≢◌, ℕ, ◌<◌, length, arith, subst, inl, inr, ◌⊎◌, Bool, true, false, cond, ◌&&◌}
use Rattle.std.proofs.Common.{◌||◌, eqb, List, [], ◌∷◌, ◌++◌, map, slice_get, sym, eq-eqb, ne_eqb, refl, ap, ap₂, ◌∙◌}
use Rattle.std.specs.Prelude.{Option, Some, None}
use Rattle.std.specs.Option.{option_map, option_to_list}
use Rattle.std.specs.List.{filter, filter_map, find, list_any, cons_option}
use Rattle.std.proofs.lemmas.Bool.{cases_eq, eqb-false, or_cases, or_parts}
use Rattle.std.proofs.lemmas.List.{append-nil}
use Rattle.std.proofs.lemmas.List.Elements.{filter-append, filter_map-append}
use Rattle.std.proofs.lemmas.List.Folds.{list_any-append}
use Rattle.std.proofs.Math.Bool.{and-false, or-false}

-- ---- one more element

pub filter_push : {X : Type 0} (p : X → Bool) (xs : List X) (x : X)
    → filter p (xs ++ x ∷ []) ≡ filter p xs ++ cond (p x) (x ∷ []) []
filter_push p xs x = filter-append p xs (x ∷ [])

pub filter_push_in : {X : Type 0} (p : X → Bool) (xs : List X) (x : X) → p x ≡ true
    → filter p (xs ++ x ∷ []) ≡ filter p xs ++ x ∷ []
filter_push_in p xs x passes = filter_push p xs x ∙ ap (λ b. filter p xs ++ cond b (x ∷ []) []) passes

pub filter_push_out : {X : Type 0} (p : X → Bool) (xs : List X) (x : X) → p x ≡ false
    → filter p (xs ++ x ∷ []) ≡ filter p xs
filter_push_out p xs x out =
    filter_push p xs x ∙ ap (λ b. filter p xs ++ cond b (x ∷ []) []) out ∙ append-nil (filter p xs)

pub filter_map_push : {X Y : Type 0} (h : X → Option Y) (xs : List X) (x : X)
    → filter_map h (xs ++ x ∷ []) ≡ filter_map h xs ++ option_to_list (h x)
filter_map_push {Y = Y} h xs x = filter_map-append h xs (x ∷ []) ∙ ap (λ ys. filter_map h xs ++ ys) (alone (h x))
  where
    alone : (o : Option Y) → cons_option o [] ≡ option_to_list o
    alone None = refl
    alone (Some y) = refl

pub list_any_push : {X : Type 0} (p : X → Bool) (xs : List X) (x : X)
    → list_any p (xs ++ x ∷ []) ≡ (list_any p xs || p x)
list_any_push p xs x = list_any-append p xs (x ∷ []) ∙ ap (λ b. list_any p xs || b) (or-false (p x))

pub first_push : {X : Type 0} (xs : List X) (x : X) → 0 < length xs → slice_get (xs ++ x ∷ []) 0 ≡ slice_get xs 0
first_push [] x lt = absurd (omega arith)
first_push (y ∷ xs) x lt = refl

-- ---- tests that agree but at one number

pub filter_agree_but : (t : ℕ) (p q : ℕ → Bool) → ((n : ℕ) → n ≢ t → p n ≡ q n)
    → (xs : List ℕ) → list_any (λ n. eqb n t) xs ≡ false → filter p xs ≡ filter q xs
filter_agree_but t p q agree [] out = refl
filter_agree_but t p q agree (x ∷ xs) out =
    let parts = or_parts (eqb x t) (list_any (λ n. eqb n t) xs) out in
    ap₂ (λ b ys. cond b (x ∷ ys) ys) (agree x (eqb-false x t parts.0)) (filter_agree_but t p q agree xs parts.1)

pub map_agree_but : {X : Type 0} (t : ℕ) (f g : ℕ → X) → ((n : ℕ) → n ≢ t → f n ≡ g n)
    → (xs : List ℕ) → list_any (λ n. eqb n t) xs ≡ false → map f xs ≡ map g xs
map_agree_but t f g agree [] out = refl
map_agree_but t f g agree (x ∷ xs) out =
    let parts = or_parts (eqb x t) (list_any (λ n. eqb n t) xs) out in
    ap₂ (λ y ys. y ∷ ys) (agree x (eqb-false x t parts.0)) (map_agree_but t f g agree xs parts.1)

-- ---- one test after another, and under a map

pub filter-filter : {X : Type 0} (p q : X → Bool) (xs : List X) → filter q (filter p xs) ≡ filter (λ x. p x && q x) xs
filter-filter p q [] = refl
filter-filter p q (x ∷ xs) =
    let both = filter (λ y. p y && q y) xs in
    elim (p x) as (λ b. filter q (cond b (x ∷ filter p xs) (filter p xs)) ≡ cond (b && q x) (x ∷ both) both) [
      | true ↦ ap (λ ys. cond (q x) (x ∷ ys) ys) (filter-filter p q xs)
      | false ↦ filter-filter p q xs
    ]

pub filter-map : {X Y : Type 0} (f : X → Y) (p : Y → Bool) (xs : List X)
    → filter p (map f xs) ≡ map f (filter (λ x. p (f x)) xs)
filter-map f p [] = refl
filter-map f p (x ∷ xs) =
    let rest = filter (λ y. p (f y)) xs in
    elim (p (f x)) as (λ b. cond b (f x ∷ filter p (map f xs)) (filter p (map f xs)) ≡ map f (cond b (x ∷ rest) rest)) [
      | true ↦ ap (λ ys. f x ∷ ys) (filter-map f p xs)
      | false ↦ filter-map f p xs
    ]

pub find-map : {X Y : Type 0} (f : X → Y) (p : Y → Bool) (xs : List X)
    → find p (map f xs) ≡ option_map f (find (λ x. p (f x)) xs)
find-map f p [] = refl
find-map f p (x ∷ xs) =
    let rest = find (λ y. p (f y)) xs in
    elim (p (f x)) as (λ b. cond b (Some (f x)) (find p (map f xs)) ≡ option_map f (cond b (Some x) rest)) [
      | true ↦ refl
      | false ↦ find-map f p xs
    ]

-- what passes p comes from what passes q
pub filter_some : {X Y : Type 0} (h : X → Option Y) (p : Y → Bool) (q : X → Bool)
    → ((x : X) (y : Y) → h x ≡ Some y → p y ≡ true → q x ≡ true)
    → (xs : List X) → list_any p (filter_map h xs) ≡ true → 0 < length (filter q xs)
filter_some h p q from [] found = cc
filter_some {X = X} {Y = Y} h p q from (x ∷ xs) found =
    elim (here (h x) refl found) [
      | inl passes ↦ let P : Bool → Type 0 = λ b. 0 < length (cond b (x ∷ filter q xs) (filter q xs)) in
          subst P (sym passes) (omega arith)
      | inr there ↦ behind (q x) (filter_some h p q from xs there)
    ]
  where
    here : (o : Option Y) → h x ≡ o → list_any p (cons_option o (filter_map h xs)) ≡ true
        → (q x ≡ true) ⊎ (list_any p (filter_map h xs) ≡ true)
    here None is there = inr there
    here (Some y) is either = elim (or_cases (p y) (list_any p (filter_map h xs)) either) [
      | inl passes ↦ inl (from x y is passes)
      | inr there ↦ inr there
    ]

    behind : (b : Bool) → 0 < length (filter q xs) → 0 < length (cond b (x ∷ filter q xs) (filter q xs))
    behind true some = omega arith
    behind false some = some

-- a number is found among those that pass if it is there and passes
found_here : (t : ℕ) (l passes : Bool) (xs : List ℕ) → find (λ n. eqb n t) xs ≡ cond (l && passes) (Some t) None
    → find (λ n. eqb n t) (cond passes (t ∷ xs) xs) ≡ cond ((eqb t t || l) && passes) (Some t) None
found_here t l true xs behind = rw (eq-eqb t t refl) refl
found_here t l false xs behind =
    behind ∙ ap (λ b. cond b (Some t) None) (and-false l ∙ sym (and-false (eqb t t || l)))

found_behind : (t x : ℕ) (passes : Bool) (xs : List ℕ) → x ≢ t
    → find (λ n. eqb n t) (cond passes (x ∷ xs) xs) ≡ find (λ n. eqb n t) xs
found_behind t x true xs other = ap (λ b. cond b (Some x) (find (λ n. eqb n t) xs)) (ne_eqb x t other)
found_behind t x false xs other = refl

pub find-filter : (p : ℕ → Bool) (t : ℕ) (xs : List ℕ)
    → find (λ n. eqb n t) (filter p xs) ≡ cond (list_any (λ n. eqb n t) xs && p t) (Some t) None
find-filter p t [] = refl
find-filter p t (x ∷ xs) =
    let among = list_any (λ n. eqb n t) xs in
    let behind = find-filter p t xs in
    elim (cases_eq x t) [
      | inl same ↦ rw same (found_here t among (p t) (filter p xs) behind)
      | inr other ↦
          found_behind t x (p x) (filter p xs) other ∙ behind
          ∙ ap (λ b. cond ((b || among) && p t) (Some t) None) (sym (ne_eqb x t other))
    ]
