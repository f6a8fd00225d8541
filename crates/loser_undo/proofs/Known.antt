-- What is known of some transactions, in order of their numbers.
use Rattle.std.proofs.Common.{◌≡◌, ◌≢◌, ℕ, zero, suc, ◌<◌, ◌≤◌, Bool, true, false, cond, ◌||◌, eqb, List, [], ◌∷◌, ◌++◌}
use Rattle.std.proofs.Common.{length, get_or, set, map, sym, refl, ap, ap₂, ◌∙◌, inl, inr, arith, ne_eqb, eq-eqb, ltb}
use Rattle.std.specs.List.{AllByRecursion, AllPairs, filter, insert, list_any}
use Rattle.std.proofs.lemmas.Bool.{cases_eq, lt-ltb}
use Rattle.std.proofs.Math.Bool.{or-false, or-true}
use Rattle.loser_undo.specs.declared.tail.OpenTxn.{OpenTxn}
use Rattle.std.proofs.lemmas.List.{get_or_default}
use Rattle.std.proofs.lemmas.List.Elements.{recursion_from_All}
use Rattle.loser_undo.specs.Tail.{with_txn}

-- ---- the three ways in which one is put in

ltb_no : (n m : ℕ) → m ≤ n → ltb n m ≡ false
ltb_no n m le = grind arith

below_it : (x y : OpenTxn) (ys : List OpenTxn) → y.txn < x.txn → with_txn x (y ∷ ys) ≡ y ∷ with_txn x ys
below_it x y ys lt = ap (λ b. cond b (y ∷ with_txn x ys) (cond (eqb y.txn x.txn) (x ∷ ys) (x ∷ y ∷ ys)))
    (lt-ltb y.txn x.txn lt)

at_it : (x y : OpenTxn) (ys : List OpenTxn) → y.txn ≡ x.txn → with_txn x (y ∷ ys) ≡ x ∷ ys
at_it x y ys same =
    ap₂ (λ b e. cond b (y ∷ with_txn x ys) (cond e (x ∷ ys) (x ∷ y ∷ ys)))
    (ltb_no y.txn x.txn (omega arith)) (eq-eqb y.txn x.txn same)

above_it : (x y : OpenTxn) (ys : List OpenTxn) → x.txn < y.txn → with_txn x (y ∷ ys) ≡ x ∷ y ∷ ys
above_it x y ys lt =
    ap₂ (λ b e. cond b (y ∷ with_txn x ys) (cond e (x ∷ ys) (x ∷ y ∷ ys)))
    (ltb_no y.txn x.txn (omega arith)) (ne_eqb y.txn x.txn (λ same. absurd (omega arith)))

-- ---- at a place of the list

abbrev pub AreBelow : ℕ → List OpenTxn → ℕ → Type 0
AreBelow t xs i = (k : ℕ) (d : OpenTxn) → k < i → (get_or xs k d).txn < t

rest_below : (t : ℕ) (y : OpenTxn) (ys : List OpenTxn) (i : ℕ) → AreBelow t (y ∷ ys) (suc i) → AreBelow t ys i
rest_below t y ys i below k d lt = below (suc k) d (omega arith)

pub put_set : (x : OpenTxn) (ys : List OpenTxn) (i : ℕ) (d : OpenTxn) → i < length ys → AreBelow x.txn ys i
    → (get_or ys i d).txn ≡ x.txn → with_txn x ys ≡ set ys i x
put_set x [] i d lt below same = absurd (omega arith)
put_set x (y ∷ ys) zero d lt below same = at_it x y ys same
put_set x (y ∷ ys) (suc i) d lt below same =
    below_it x y ys (below 0 d (omega arith))
    ∙ ap (λ zs. y ∷ zs) (put_set x ys i d (omega arith) (rest_below x.txn y ys i below) same)

pub put_insert : (x : OpenTxn) (ys : List OpenTxn) (i : ℕ) → i ≤ length ys → AreBelow x.txn ys i
    → ((d : OpenTxn) → i < length ys → x.txn < (get_or ys i d).txn) → with_txn x ys ≡ insert ys i x
put_insert x [] zero le below above = refl
put_insert x [] (suc i) le below above = absurd (omega arith)
put_insert x (y ∷ ys) zero le below above = above_it x y ys (above x (omega arith))
put_insert x (y ∷ ys) (suc i) le below above =
    below_it x y ys (below 0 x (omega arith))
    ∙ ap (λ zs. y ∷ zs)
    (put_insert x ys i (omega arith) (rest_below x.txn y ys i below) (λ d lt. above d (omega arith)))

-- ---- one more behind all others, and one among those of a list of numbers

pub put_last : (x : OpenTxn) (ys : List OpenTxn) → AllByRecursion (λ y. y.txn < x.txn) ys
    → with_txn x ys ≡ ys ++ x ∷ []
put_last x [] below = refl
put_last x (y ∷ ys) below = below_it x y ys below.0 ∙ ap (λ zs. y ∷ zs) (put_last x ys below.1)

-- the numbers rise
abbrev pub AreRising : List ℕ → Type 0
AreRising [] = Unit {0}
AreRising (n ∷ ns) = AllByRecursion (λ m. n < m) ns × AreRising ns

pub rising_from : (ns : List ℕ) → AllPairs (λ n m. n < m) ns → AreRising ns
rising_from [] pairs = tt
rising_from (n ∷ ns) pairs = (
  recursion_from_All (λ m. n < m) ns (λ k d lt. pairs 0 (suc k) d (omega arith) (omega arith)),
  rising_from ns (λ i j d lt within. pairs (suc i) (suc j) d (omega arith) (omega arith)),
)

-- with one number more
abbrev pub or_it : (ℕ → Bool) → ℕ → ℕ → Bool
or_it p t n = p n || eqb t n

above_all : (f : ℕ → OpenTxn) (p : ℕ → Bool) (x : OpenTxn) (ns : List ℕ) → ((n : ℕ) → (f n).txn ≡ n)
    → AllByRecursion (λ m. x.txn < m) ns
    → with_txn x (map f (filter p ns)) ≡ x ∷ map f (filter p ns)
above_all f p x [] own above = refl
above_all f p x (n ∷ ns) own above =
    let is = own n in
    elim (p n) as (λ b. with_txn x (map f (cond b (n ∷ filter p ns) (filter p ns)))
    ≡ x ∷ map f (cond b (n ∷ filter p ns) (filter p ns))) [
      | true ↦ above_it x (f n) (map f (filter p ns)) (let lt = above.0 in omega arith)
      | false ↦ above_all f p x ns own above.1
    ]

not_above : (t : ℕ) (p : ℕ → Bool) (ns : List ℕ) → AllByRecursion (λ m. t < m) ns
    → filter (or_it p t) ns ≡ filter p ns
not_above t p [] above = refl
not_above t p (n ∷ ns) above =
    ap₂ (λ b ms. cond b (n ∷ ms) ms)
    (ap (λ b. p n || b) (ne_eqb t n (λ same. let lt = above.0 in absurd (omega arith))) ∙ or-false (p n))
    (not_above t p ns above.1)

pub put_known : (f : ℕ → OpenTxn) (p : ℕ → Bool) (t : ℕ) (ns : List ℕ) → ((n : ℕ) → (f n).txn ≡ n) → AreRising ns
    → list_any (λ n. eqb n t) ns ≡ true
    → (x : OpenTxn) → x.txn ≡ t → (g : ℕ → OpenTxn) → g t ≡ x → ((n : ℕ) → n ≢ t → g n ≡ f n)
    → with_txn x (map f (filter p ns)) ≡ map g (filter (or_it p t) ns)
put_known f p t [] own rising there x same g at others = cc
put_known f p t (n ∷ ns) own rising there x same g at others = elim (cases_eq n t) [
  | inl here ↦ at_head f p t n ns own rising here x same g at others
  | inr other ↦
      let later : list_any (λ n. eqb n t) ns ≡ true =
      sym (ap (λ b. b || list_any (λ n. eqb n t) ns) (ne_eqb n t other)) ∙ there in
      let rest = put_known f p t ns own rising.1 later x same g at others in
      let less : n < t = below_member n t ns rising.0 later in
      behind_head f p t n ns own x same g less (others n other) rest
]
  where
    below_member : (n t : ℕ) (ns : List ℕ) → AllByRecursion (λ m. n < m) ns → list_any (λ m. eqb m t) ns ≡ true → n < t
    below_member n t [] above there = cc
    below_member n t (m ∷ ns) above there = elim (cases_eq m t) [
      | inl here ↦ let lt = above.0 in omega arith
      | inr other ↦ below_member n t ns above.1
          (sym (ap (λ b. b || list_any (λ m. eqb m t) ns) (ne_eqb m t other)) ∙ there)
    ]

    others_above : (f g : ℕ → OpenTxn) (t : ℕ) (p : ℕ → Bool) (ns : List ℕ) → ((n : ℕ) → n ≢ t → g n ≡ f n)
        → AllByRecursion (λ m. t < m) ns → map f (filter p ns) ≡ map g (filter p ns)
    others_above f g t p [] others above = refl
    others_above f g t p (n ∷ ns) others above =
        let rest = others_above f g t p ns others above.1 in
        let here : f n ≡ g n = sym (others n (λ same. let lt = above.0 in absurd (omega arith))) in
        elim (p n) as (λ b. map f (cond b (n ∷ filter p ns) (filter p ns)) ≡ map g (cond b (n ∷ filter p ns) (filter p ns))) [
          | true ↦ ap₂ (λ y ys. y ∷ ys) here rest
          | false ↦ rest
        ]

    at_head : (f : ℕ → OpenTxn) (p : ℕ → Bool) (t n : ℕ) (ns : List ℕ) → ((n : ℕ) → (f n).txn ≡ n)
        → AreRising (n ∷ ns) → n ≡ t → (x : OpenTxn) → x.txn ≡ t → (g : ℕ → OpenTxn) → g t ≡ x
        → ((n : ℕ) → n ≢ t → g n ≡ f n)
        → with_txn x (map f (filter p (n ∷ ns))) ≡ map g (filter (or_it p t) (n ∷ ns))
    at_head f p t n ns own rising here x same g at others =
        let above : AllByRecursion (λ m. t < m) ns = rw (sym here) rising.0 in
        let above_x : AllByRecursion (λ m. x.txn < m) ns = rw same above in
        let left : with_txn x (map f (filter p (n ∷ ns))) ≡ x ∷ map f (filter p ns) =
        elim (p n) as (λ b. with_txn x (map f (cond b (n ∷ filter p ns) (filter p ns))) ≡ x ∷ map f (filter p ns)) [
          | true ↦ at_it x (f n) (map f (filter p ns)) (own n ∙ here ∙ sym same)
          | false ↦ above_all f p x ns own above_x
        ] in
        let right : map g (filter (or_it p t) (n ∷ ns)) ≡ x ∷ map f (filter p ns) =
        ap₂ (λ b ms. map g (cond b (n ∷ ms) ms))
        (ap (λ b. p n || b) (eq-eqb t n (sym here)) ∙ or-true (p n)) (not_above t p ns above)
        ∙ ap₂ (λ y ys. y ∷ ys) (ap g here ∙ at) (sym (others_above f g t p ns others above)) in
        left ∙ sym right

    behind_head : (f : ℕ → OpenTxn) (p : ℕ → Bool) (t n : ℕ) (ns : List ℕ) → ((n : ℕ) → (f n).txn ≡ n)
        → (x : OpenTxn) → x.txn ≡ t → (g : ℕ → OpenTxn) → n < t → g n ≡ f n
        → with_txn x (map f (filter p ns)) ≡ map g (filter (or_it p t) ns)
        → with_txn x (map f (filter p (n ∷ ns))) ≡ map g (filter (or_it p t) (n ∷ ns))
    behind_head f p t n ns own x same g less is rest =
        let alone : or_it p t n ≡ p n =
        ap (λ b. p n || b) (ne_eqb t n (λ e. absurd (omega arith))) ∙ or-false (p n) in
        let lower : (f n).txn < x.txn = let it = own n in omega arith in
        (elim (p n) as (λ b. with_txn x (map f (cond b (n ∷ filter p ns) (filter p ns)))
        ≡ map g (cond b (n ∷ filter (or_it p t) ns) (filter (or_it p t) ns))) [
          | true ↦ below_it x (f n) (map f (filter p ns)) lower ∙ ap₂ (λ y ys. y ∷ ys) (sym is) rest
          | false ↦ rest
        ]) ∙ ap (λ b. map g (cond b (n ∷ filter (or_it p t) ns) (filter (or_it p t) ns))) (sym alone)

-- what was read at a place is what stands there, whatever stands in for it
pub same_at : (xs : List OpenTxn) (i : ℕ) (x d : OpenTxn) → i < length xs → x ≡ get_or xs i x
    → (get_or xs i d).txn ≡ x.txn
same_at xs i x d lt is = ap (λ (o : OpenTxn). o.txn) (get_or_default xs i d x lt ∙ sym is)

pub above_other : (n t : ℕ) → t ≤ n → (n ≡ t → ⊥) → t < n
above_other n t from other = omega arith
