-- Numbers of eight bytes, one after another.
use Rattle.std.proofs.Common.{◌≡◌, ℕ, suc, ◌+◌, ◌<◌, ◌^◌, List, [], ◌∷◌, ◌++◌, length, get_or, take, drop, refl, sym}
use Rattle.std.proofs.Common.{ap, ◌∙◌, arith}
use Rattle.std.specs.Int.{w64, to_le_bytes, from_le_bytes}
use Rattle.std.specs.List.{flat_map, AllByRecursion}
use Rattle.std.proofs.lemmas.List.{take_at, drop_at, take_more}
use Rattle.std.proofs.lemmas.List.Concat.{flat_map-append}
use Rattle.std.proofs.lemmas.Nat.{from_le_bytes-to_le_bytes_8}
use Rattle.page_core.proofs.Pieces.{HaveLength}

pub eight_bytes : HaveLength (to_le_bytes w64) 8
eight_bytes = record { each = λ n. refl }

-- no two numbers have the same bytes
pub same_number : (m n : ℕ) → m < 2 ^ 64 → n < 2 ^ 64 → to_le_bytes w64 m ≡ to_le_bytes w64 n → m ≡ n
same_number m n m_fits n_fits e =
    sym (from_le_bytes-to_le_bytes_8 m m_fits) ∙ ap (from_le_bytes w64) e ∙ from_le_bytes-to_le_bytes_8 n n_fits

pub same_numbers : (xs ys : List ℕ) → AllByRecursion (λ n. n < 2 ^ 64) xs → AllByRecursion (λ n. n < 2 ^ 64) ys
    → length xs ≡ length ys
    → flat_map (to_le_bytes w64) xs ≡ flat_map (to_le_bytes w64) ys → xs ≡ ys
same_numbers [] [] xs_fit ys_fit len e = refl
same_numbers [] (y ∷ ys) xs_fit ys_fit len e = absurd (omega arith)
same_numbers (x ∷ xs) [] xs_fit ys_fit len e = absurd (omega arith)
same_numbers (x ∷ xs) (y ∷ ys) xs_fit ys_fit len e =
    let first : to_le_bytes w64 x ≡ to_le_bytes w64 y =
    sym (take_at (to_le_bytes w64 x) (flat_map (to_le_bytes w64) xs) 8 refl) ∙ ap (take 8) e
    ∙ take_at (to_le_bytes w64 y) (flat_map (to_le_bytes w64) ys) 8 refl in
    let others : flat_map (to_le_bytes w64) xs ≡ flat_map (to_le_bytes w64) ys =
    sym (drop_at (to_le_bytes w64 x) (flat_map (to_le_bytes w64) xs) 8 refl) ∙ ap (drop 8) e
    ∙ drop_at (to_le_bytes w64 y) (flat_map (to_le_bytes w64) ys) 8 refl in
    let lengths : length xs ≡ length ys = omega arith in
    rw (same_number x y xs_fit.0 ys_fit.0 first, same_numbers xs ys xs_fit.1 ys_fit.1 lengths others) refl

-- one number more
pub numbers_more : (xs : List ℕ) (i : ℕ) → i < length xs
    → flat_map (to_le_bytes w64) (take (i + 1) xs) ≡ flat_map (to_le_bytes w64) (take i xs)
    ++ to_le_bytes w64 (get_or xs i 0)
numbers_more xs i lt =
    ap (flat_map (to_le_bytes w64)) (take_more xs i 0 lt)
    ∙ flat_map-append (to_le_bytes w64) (take i xs) (get_or xs i 0 ∷ [])

-- numbers that fit at each place
pub all_fit : (xs : List ℕ) → ((k : ℕ) → k < length xs → get_or xs k 0 < 2 ^ 64) → AllByRecursion (λ n. n < 2 ^ 64) xs
all_fit [] fits = tt
all_fit (x ∷ xs) fits = (fits 0 (omega arith), all_fit xs (λ k lt. fits (suc k) (omega arith)))
