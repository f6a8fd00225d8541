-- Sums over the views of all seats, and how often a page stands in their lists.
use Rattle.std.proofs.Common.{◌≡◌, ℕ, zero, suc, ◌+◌, ◌≤◌, ◌==◌, Bool, true, false, cond, ◌||◌, List, [], ◌∷◌, ◌++◌, set, sym, refl, ap, arith}
use Rattle.std.specs.List.{sum_by}
use Rattle.std.proofs.lemmas.List.{map-id}
use Rattle.std.proofs.lemmas.List.FromFn.{sum_by-map-range_with_len_more}
use Rattle.std.proofs.lemmas.List.Sums.{sum_by-cons, sum_by-append}
use mathlib.Core.Option.{some, some-injective, some-ne-none}
use lib.ListN.{get_elem?}
use Rattle.page_claim.specs.declared.rule.ClaimView.{ClaimView}
use Rattle.page_claim.specs.Rule.{times, pages_below, drawn}

module _ {A : Type 0} (f : A → ℕ) where
  pub sum_by_changed : (xs : List A) (i : ℕ) (v w : A) → get_elem? xs i ≡ some v → sum_by f (set xs i w) + f v ≡ sum_by f xs + f w
  sum_by_changed [] i v w at = absurd (some-ne-none v (sym at))
  sum_by_changed (x ∷ xs) zero v w at = let same : f x ≡ f v = ap f (some-injective x v at) in let a = sum_by-cons f w xs in let b = sum_by-cons f x xs in omega arith
  sum_by_changed (x ∷ xs) (suc i) v w at = let r = sum_by_changed xs i v w at in let a = sum_by-cons f x (set xs i w) in let b = sum_by-cons f x xs in omega arith

  pub at-le-sum_by : (xs : List A) (i : ℕ) (v : A) → get_elem? xs i ≡ some v → f v ≤ sum_by f xs
  at-le-sum_by [] i v at = absurd (some-ne-none v (sym at))
  at-le-sum_by (x ∷ xs) zero v at = let same : f x ≡ f v = ap f (some-injective x v at) in let b = sum_by-cons f x xs in omega arith
  at-le-sum_by (x ∷ xs) (suc i) v at = let r = at-le-sum_by xs i v at in let b = sum_by-cons f x xs in omega arith

module _ {A : Type 0} (f g : A → ℕ) where
  pub sum_by_least : ((v : A) → f v ≤ g v) → (xs : List A) → sum_by f xs ≤ sum_by g xs
  sum_by_least le [] = omega arith
  sum_by_least le (x ∷ xs) = let a = sum_by-cons f x xs in let b = sum_by-cons g x xs in let r = sum_by_least le xs in let h = le x in omega arith

  abbrev pub IsIdle : List A → Type 0
  IsIdle xs = (i : ℕ) (v : A) → get_elem? xs i ≡ some v → g v ≡ 0 → f v ≡ 0

  pub sum_by_of_none : (xs : List A) → IsIdle xs → sum_by g xs ≡ 0 → sum_by f xs ≡ 0
  sum_by_of_none [] idle e = refl
  sum_by_of_none (x ∷ xs) idle e = let a = sum_by-cons f x xs in let b = sum_by-cons g x xs in let here : f x ≡ 0 = idle zero x refl (omega arith) in
      let rest : sum_by f xs ≡ 0 = sum_by_of_none xs (λ i v at. idle (suc i) v at) (omega arith) in omega arith

  pub sum_by_of_one : (xs : List A) (i : ℕ) (v : A) → IsIdle xs → get_elem? xs i ≡ some v → sum_by g xs ≡ g v → sum_by f xs ≡ f v
  sum_by_of_one [] i v idle at e = absurd (some-ne-none v (sym at))
  sum_by_of_one (x ∷ xs) zero v idle at e = let a = sum_by-cons f x xs in let b = sum_by-cons g x xs in let is = some-injective x v at in let sf : f x ≡ f v = ap f is in let sg : g x ≡ g v = ap g is in
      let rest : sum_by f xs ≡ 0 = sum_by_of_none xs (λ i w on. idle (suc i) w on) (omega arith) in omega arith
  sum_by_of_one (x ∷ xs) (suc i) v idle at e = let a = sum_by-cons f x xs in let b = sum_by-cons g x xs in let le = at-le-sum_by g xs i v at in let here : f x ≡ 0 = idle zero x refl (omega arith) in
      let rest : sum_by f xs ≡ f v = sum_by_of_one xs i v (λ j w on. idle (suc j) w on) at (omega arith) in omega arith

pub times-append : (page : ℕ) (xs ys : List ℕ) → times page (xs ++ ys) ≡ times page xs + times page ys
times-append page xs ys = sum_by-append (λ other. cond (other == page) 1 0) xs ys

pub times_below_more : (page n : ℕ) → times page (pages_below (n + 1)) ≡ times page (pages_below n) + times page (n ∷ [])
times_below_more page n = let g : ℕ → ℕ = λ other. cond (other == page) 1 0 in let e = sum_by-map-range_with_len_more g (λ (x : ℕ). x) 0 n n (omega arith) in
    let e2 = simp map-id at e in omega arith

abbrev pub held : ℕ → ClaimView → ℕ
held page view = times page view.pages

pub times_drawn : (page : ℕ) (views : List ClaimView) → times page (drawn views) ≡ sum_by (held page) views
times_drawn page [] = refl
times_drawn page (v ∷ views) = let r = times_drawn page views in let a = times-append page v.pages (drawn views) in let b = sum_by-cons (held page) v views in omega arith

pub weights_of_either : (a b : Bool) (x y : ℕ) → cond a x 0 + cond b y 0 ≤ cond (a || b) (x + y) 0
weights_of_either true true x y = omega arith
weights_of_either true false x y = omega arith
weights_of_either false true x y = omega arith
weights_of_either false false x y = omega arith
