-- Lists that are joined of pieces, as a page is of fields and a volume of pages.
use Rattle.std.specs.Prelude.{ℕ, ◌≡◌, ◌+◌, ◌-◌, ◌*◌, ◌<◌, ◌≤◌, zero, suc, List, [], ◌∷◌, ◌++◌, length, take, drop}
use Rattle.std.specs.Prelude.{get_or, refl, slice_range}
use Rattle.std.specs.List.{flat_map}
use Rattle.std.proofs.Common.{sym, ap, ◌∙◌, arith}
use Rattle.std.proofs.lemmas.List.{length-append, length-drop, take_at, drop_at, drop-drop, take-append-drop}
use Rattle.std.proofs.lemmas.List.{nil_from_length, drop-take, take-take, take-append-le}

-- each piece has this length
pub record HaveLength {X A : Type 0} (piece : X → List A) (k : ℕ) : Type 0 where
  pub each : (x : X) → length (piece x) ≡ k

pub length-pieces : {X A : Type 0} (piece : X → List A) (k : ℕ) → HaveLength piece k → (xs : List X)
    → length (flat_map piece xs) ≡ k * length xs
length-pieces piece k same [] = omega arith
length-pieces piece k same (x ∷ xs) =
    length-append (piece x) (flat_map piece xs) ∙ omega (arith, same.each x, length-pieces piece k same xs)

-- the piece at an index
pub take-drop-pieces : {X A : Type 0} (piece : X → List A) (k : ℕ) → HaveLength piece k → (xs : List X) (i : ℕ) (d : X)
    → i < length xs
    → take k (drop (k * i) (flat_map piece xs)) ≡ piece (get_or xs i d)
take-drop-pieces piece k same [] i d lt = absurd (omega arith)
take-drop-pieces piece k same (x ∷ xs) zero d lt =
    let start : k * 0 ≡ 0 = omega arith in
    rw start (take_at (piece x) (flat_map piece xs) k (same.each x))
take-drop-pieces piece k same (x ∷ xs) (suc i) d lt =
    let next : k * suc i ≡ k + k * i = omega arith in
    let rest : drop (k * suc i) (piece x ++ flat_map piece xs) ≡ drop (k * i) (flat_map piece xs) =
    ap (λ n. drop n (piece x ++ flat_map piece xs)) next ∙ sym (drop-drop (k * i) k (piece x ++ flat_map piece xs))
    ∙ ap (drop (k * i)) (drop_at (piece x) (flat_map piece xs) k (same.each x)) in
    let below : i < length xs = omega arith in
    ap (take k) rest ∙ take-drop-pieces piece k same xs i d below

-- a list whose parts of length k are the pieces is joined of them
pub pieces_are : {X A : Type 0} (piece : X → List A) (k : ℕ) → HaveLength piece k → (xs : List X) (whole : List A)
    → length whole ≡ k * length xs
    → ((i : ℕ) (d : X) → i < length xs → take k (drop (k * i) whole) ≡ piece (get_or xs i d))
    → whole ≡ flat_map piece xs
pieces_are piece k same [] whole len parts = nil_from_length whole (omega arith)
pieces_are piece k same (x ∷ xs) whole len parts =
    let start : k * 0 ≡ 0 = omega arith in
    let first : take k whole ≡ piece x = ap (λ n. take k (drop n whole)) (sym start) ∙ parts 0 x (omega arith) in
    let long : length (drop k whole) ≡ k * length xs = omega (arith, length-drop k whole) in
    let others : drop k whole ≡ flat_map piece xs = pieces_are piece k same xs (drop k whole) long (λ i d lt.
    let next : k * suc i ≡ k + k * i = omega arith in
    ap (take k) (drop-drop (k * i) k whole ∙ ap (λ n. drop n whole) (sym next)) ∙ parts (suc i) d (omega arith)) in
    sym (take-append-drop k whole) ∙ rw (first, others) refl

-- the first c are the first b and the part from b to c
pub grow : {X : Type 0} (xs front field : List X) (b c : ℕ) → b ≤ c → front ≡ take b xs → field ≡ slice_range xs b c
    → front ++ field ≡ take c xs
grow xs front field b c le e d =
    let split : take b (take c xs) ++ drop b (take c xs) ≡ take c xs = take-append-drop b (take c xs) in
    let total : b + (c - b) ≡ c = omega arith in
    let second : drop b (take c xs) ≡ take (c - b) (drop b xs) = ap (λ n. drop b (take n xs)) (sym total)
    ∙ drop-take b (c - b) xs in
    rw (e, d, ← second, ← take-take b c xs le) split

-- a front of the middle of three lists
pub into : {X : Type 0} (a b c : List X) (m n : ℕ) → m ≡ length a → n ≤ length b
    → a ++ take n b ≡ take (m + n) (a ++ (b ++ c))
into a b c m n start fits =
    let xs = a ++ (b ++ c) in
    let wide : m + n - m ≡ n = omega arith in
    grow xs a (take n b) m (m + n) (omega arith) (sym (take_at a (b ++ c) m (sym start)))
    (sym (ap (λ k. take k (drop m xs)) wide ∙ ap (take n) (drop_at a (b ++ c) m (sym start))
    ∙ take-append-le n b c fits))
