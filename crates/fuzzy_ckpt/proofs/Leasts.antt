-- The least of some numbers.
use Rattle.std.proofs.Common.{◌≡◌, ℕ, suc, ◌≤◌, Bool, true, false, cond, List, [], ◌∷◌, refl, sym, ap, subst, ◌∙◌}
use Rattle.std.proofs.Common.{arith, inl, inr, min}
use Rattle.std.specs.Prelude.{Option, Some, None, MatchOption}
use Rattle.std.specs.List.{All, Contains, filter}
use Rattle.std.specs.Option.{option_map_or}
use Rattle.std.proofs.lemmas.Bool.{cases_lt}
use Rattle.std.proofs.lemmas.List.Elements.{All-cons, All-head, All-nil, All-tail, All-weaker}
use Rattle.log_records.specs.Least.{least}

-- it is one of them
pub least_in : (ns : List ℕ) (m : ℕ) → least ns ≡ Some m → Contains ns m
least_in [] m is = cc
least_in (n ∷ ns) m is = by_rest (least_in ns) (least ns) refl
  where
    by_rest : ((k : ℕ) → least ns ≡ Some k → Contains ns k) → (o : Option ℕ) → least ns ≡ o → Contains (n ∷ ns) m
    by_rest rest None none =
        let alone : Some n ≡ Some m = ap (λ (o : Option ℕ). Some (option_map_or (min n) o n)) (sym none) ∙ is in
        let here : n ≡ m = cc in
        (0, omega arith, here)
    by_rest rest (Some k) some =
        let both : Some (min n k) ≡ Some m = ap (λ (o : Option ℕ). Some (option_map_or (min n) o n)) (sym some) ∙ is in
        let here : min n k ≡ m = cc in
        elim (cases_lt k n) [
          | inl less ↦
              let one : k ≡ m = omega arith in
              let has = rest k some in
              let lt = has.1 in
              subst (Contains (n ∷ ns)) one (suc has.0, omega arith, has.2)
          | inr le ↦
              let one : n ≡ m = omega arith in
              (0, omega arith, one)
        ]

-- there is one, where there are any
pub least_none : (ns : List ℕ) → least ns ≡ None → ns ≡ []
least_none [] none = refl
least_none (n ∷ ns) none = cc

-- and none is below it
pub least_low : (ns : List ℕ) (m : ℕ) → least ns ≡ Some m → All (λ n. m ≤ n) ns
least_low [] m is = All-nil (λ n. m ≤ n)
least_low (n ∷ ns) m is = by_rest (least_low ns) (least_none ns) (least ns) refl
  where
    by_rest : ((k : ℕ) → least ns ≡ Some k → All (λ n. k ≤ n) ns) → (least ns ≡ None → ns ≡ []) → (o : Option ℕ)
        → least ns ≡ o → All (λ n. m ≤ n) (n ∷ ns)
    by_rest rest empty None none =
        let alone : Some n ≡ Some m = ap (λ (o : Option ℕ). Some (option_map_or (min n) o n)) (sym none) ∙ is in
        let here : n ≡ m = cc in
        All-cons (λ n. m ≤ n) n ns (omega arith) (subst (All (λ n. m ≤ n)) (sym (empty none)) (All-nil (λ n. m ≤ n)))
    by_rest rest empty (Some k) some =
        let both : Some (min n k) ≡ Some m = ap (λ (o : Option ℕ). Some (option_map_or (min n) o n)) (sym some) ∙ is in
        let here : min n k ≡ m = cc in
        All-cons (λ n. m ≤ n) n ns (omega arith)
        (All-weaker (λ x. k ≤ x) (λ x. m ≤ x) (λ x le. omega arith) ns (rest k some))

-- what holds of each that a filter keeps
pub of_kept : (f : ℕ → Bool) (P : ℕ → Type 0) (ns : List ℕ) → All P (filter f ns) → All (λ n. f n ≡ true → P n) ns
of_kept f P [] all = All-nil (λ n. f n ≡ true → P n)
of_kept f P (n ∷ ns) all = by_test (of_kept f P ns) (f n) refl
  where
    by_test : (All P (filter f ns) → All (λ n. f n ≡ true → P n) ns) → (b : Bool) → f n ≡ b
        → All (λ n. f n ≡ true → P n) (n ∷ ns)
    by_test rest true e =
        let here : All P (n ∷ filter f ns) = subst
        (λ (b : Bool). All P (cond b (n ∷ filter f ns) (filter f ns))) e all in
        All-cons (λ n. f n ≡ true → P n) n ns (λ same. All-head P n (filter f ns) here)
        (rest (All-tail P n (filter f ns) here))
    by_test rest false e =
        let here : All P (filter f ns) = subst (λ (b : Bool). All P (cond b (n ∷ filter f ns) (filter f ns))) e all in
        All-cons (λ n. f n ≡ true → P n) n ns (λ same. cc) (rest here)

-- ---- an answer that may be none

pub from_none : {X : Type 0} (o : Option X) (P : Type 0) (Q : X → Type 0) → o ≡ None → MatchOption o P Q → P
from_none o P Q is h = subst (λ x. MatchOption x P Q) is h

pub from_some : {X : Type 0} (o : Option X) (x : X) (P : Type 0) (Q : X → Type 0) → o ≡ Some x → MatchOption o P Q → Q x
from_some o x P Q is h = subst (λ y. MatchOption y P Q) is h
