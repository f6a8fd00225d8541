-- Where a path is parted.
use Rattle.std.proofs.Common.{◌≡◌, ◌≢◌, ◌<◌, ◌≤◌, ◌+◌, ◌-◌, ◌∙◌, ℕ, Bor, List, ap, arith, drop, get_or, inl, inr, length, length-drop, option_map, refl, sym, take, lit<, suc, zero}
use Rattle.std.specs.Prelude.{MatchOption, None, Option, Some}
use Rattle.std.specs.Path.{rfind_below, rsplit_once}
use Rattle.std.specs.Str.Pattern.{RFindsChar}
use Rattle.std.proofs.lemmas.Bool.Decides.{eqb_tells}
use Rattle.std.proofs.lemmas.List.{get_or-drop}
use Rattle.std.proofs.lemmas.Str.{len_utf8_ascii}
use Rattle.std.proofs.lemmas.Str.Pattern.{NoCharPasses-char}

none_below : (c : ℕ) (text : List ℕ) (n : ℕ) → ((k : ℕ) → k < n → get_or text k 0 ≢ c)
    → rfind_below c text n ≡ None
none_below c text zero other = refl
none_below c text (suc n) other = elim (eqb_tells (get_or text n 0) c) [
  | inl same ↦ absurd (other n (omega arith) same.1)
  | inr differs ↦ rw differs.0 (none_below c text n (λ k below. other k (omega (arith, below))))
]

last_below : (c : ℕ) (text : List ℕ) (i n : ℕ) → i < n → get_or text i 0 ≡ c
    → ((k : ℕ) → i < k → k < n → get_or text k 0 ≢ c) → rfind_below c text n ≡ Some i
last_below c text i zero below is other = absurd (omega (arith, below))
last_below c text i (suc n) below is other = elim (eqb_tells (get_or text n 0) c) [
  | inl same ↦ elim (eqb_tells i n) [
    | inl here ↦ rw same.0 (ap (λ (k : ℕ). Some k) (sym here.1))
    | inr there ↦ absurd (other n (omega (arith, there.1, below)) (omega arith) same.1)
  ]
  | inr differs ↦ elim (eqb_tells i n) [
    | inl here ↦ absurd (differs.1 (ap (λ (k : ℕ). get_or text k 0) (sym here.1) ∙ is))
    | inr there ↦ rw differs.0 (last_below c text i n (omega (arith, there.1, below)) is (λ k above under. other k above (omega (arith, under))))
  ]
]

-- what `rsplit_once` cuts at a slash
pub cut_at_slash : (text : List ℕ) (r : Option (Bor (List ℕ) × Bor (List ℕ)))
    → MatchOption r (RFindsChar 47 text None) (λ x. (i : ℕ) × (j : ℕ) × RFindsChar 47 text (Some (i, j)) × (x.0.now ≡ take i text) × (x.1.now ≡ drop j text) × (i ≤ j) × (length x.0.now ≡ i) × (length x.1.now + j ≡ length text))
    → option_map (λ x. (x.0.now, x.1.now)) r ≡ rsplit_once 47 text
unfolding rsplit_once
cut_at_slash text None found = ap (option_map (λ (i : ℕ). (take i text, drop (i + 1) text)))
    (sym (none_below 47 text (length text) (λ k below same. NoCharPasses-char 47 text k found (lit< tt) below same)))
cut_at_slash text (Some x) found =
    let i = found.0 in
    let j = found.1 in
    let next : j ≡ i + 1 = omega (arith, found.2.1.ends, len_utf8_ascii 47 (lit< tt)) in
    let none_behind = λ (k : ℕ) (above : i < k) (below : k < length text) (same : get_or text k 0 ≡ 47).
    NoCharPasses-char 47 (drop j text) (k - j) found.2.0 (lit< tt) (omega (arith, above, below, next, length-drop j text))
    (get_or-drop j text (k - j) 0 ∙ ap (λ (n : ℕ). get_or text n 0) (omega (arith, above, next)) ∙ same) in
    let place = last_below 47 text i (length text) (omega (arith, next, found.7)) (found.2.1.byte (lit< tt)) none_behind in
    rw place (ap (λ (front : List ℕ). Some (front, x.1.now)) found.3 ∙ ap (λ (rest : List ℕ). Some (take i text, rest)) (found.4 ∙ ap (λ (n : ℕ). drop n text) next))
