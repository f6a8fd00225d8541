-- Bits in rows of words.
use Rattle.std.proofs.Common.{◌≡◌, ◌∙◌, ℕ, ◌+◌, ◌-◌, ◌*◌, ◌/◌, ◌%◌, ◌^◌, ◌<◌, ◌≤◌, Bool, true, false, List, cond, eqb}
use Rattle.std.proofs.Common.{length, get_or, set, replicate, sym, ap, inl, inr, arith}
use Rattle.std.proofs.lemmas.Bool.{cases_eq, cases_lt, eq-eqb, ne_eqb}
use Rattle.std.proofs.lemmas.List.{get_or_default, get_or_past, get_or-replicate, get_or-set_other, get_or-set_same}
use Rattle.std.proofs.lemmas.List.{length-replicate, length-set, same_lists}
use Rattle.std.proofs.lemmas.List.FromFn.{get_or-map-range_with_len, length-map-range_with_len}
use Rattle.std.proofs.lemmas.Nat.{pow-add, shr_le}
use Rattle.std.proofs.Math.Nat.{div-div-eq-div-mul}
use Rattle.std.proofs.lemmas.Nat.Bits.{bit_at_above, bit_at_clear_other, bit_at_clear_same, bit_at_set_other}
use Rattle.std.proofs.lemmas.Nat.Bits.{bit_at_set_same, bit_at-trailing_zeros, bit_at-zero}
use Rattle.std.specs.Int.{bit_at, bit_not, trailing_zeros}
use Rattle.std.specs.Int.RustNames.{bit_or}
use lib.Bits.{bit_and}
use mir.Syntax.{w64}
use Rattle.buffer_pool.specs.BitRow.{bit, bits_of}
use Rattle.buffer_pool.specs.PageSet.{HasNone, IsFirstFrom}

pub length-bits_of : (words : List ℕ) → length (bits_of words) ≡ 64 * length words
unfolding bits_of
length-bits_of words = length-map-range_with_len (bit words) 0 (64 * length words)

-- past the words no bit is set
bit_past : (words : List ℕ) (n : ℕ) → 64 * length words ≤ n → bit words n ≡ false
bit_past words n high =
    ap (λ (w : ℕ). eqb (bit_at w (n % 64)) 1) (get_or_past words (n / 64) 0 (omega arith))
    ∙ ap (λ (b : ℕ). eqb b 1) (bit_at-zero (n % 64))

-- what a row says of a number
pub bit_is : (words : List ℕ) (n : ℕ) → get_or (bits_of words) n false ≡ bit words n
unfolding bits_of
bit_is words n = elim (cases_lt n (64 * length words)) [
  | inl low ↦
      get_or-map-range_with_len (bit words) 0 (64 * length words) n n false low (omega arith)
  | inr high ↦
      get_or_past (bits_of words) n false (omega (arith, length-bits_of words)) ∙ sym (bit_past words n high)
]

-- ---- a row of words in which no bit is set

pub bits_none : (words : List ℕ) (count : ℕ) → words ≡ replicate count 0
    → bits_of words ≡ replicate (64 * count) false
bits_none words count zeros =
    let long : length words ≡ count = ap length zeros ∙ length-replicate count 0 in
    same_lists (bits_of words) (replicate (64 * count) false)
    (length-bits_of words ∙ ap (λ (n : ℕ). 64 * n) long ∙ sym (length-replicate (64 * count) false)) (λ k d lt.
    let below : k < 64 * count = omega (arith, length-bits_of words) in
    let word : get_or words (k / 64) 0 ≡ 0 =
    ap (λ (ws : List ℕ). get_or ws (k / 64) 0) zeros ∙ get_or-replicate count (k / 64) 0 0 (omega arith) in
    get_or_default (bits_of words) k d false lt
    ∙ bit_is words k ∙ ap (λ (w : ℕ). eqb (bit_at w (k % 64)) 1) word
    ∙ ap (λ (b : ℕ). eqb b 1) (bit_at-zero (k % 64))
    ∙ sym (get_or-replicate (64 * count) k false d below))

-- ---- a bit that is set or cleared

with_bit : (w k i : ℕ) → k < 64 → i < 64
    → eqb (bit_at (bit_or w (1 * 2 ^ k % 2 ^ 64)) i) 1 ≡ cond (eqb i k) true (eqb (bit_at w i) 1)
with_bit w k i within below = elim (cases_eq i k) [
  | inl same ↦
      ap (λ j. eqb (bit_at (bit_or w (1 * 2 ^ k % 2 ^ 64)) j) 1) same
      ∙ ap (λ b. eqb b 1) (bit_at_set_same w64 w k within)
      ∙ sym (ap (λ t. cond t true (eqb (bit_at w i) 1)) (eq-eqb i k same))
  | inr other ↦
      ap (λ b. eqb b 1) (bit_at_set_other w64 w k within i other)
      ∙ sym (ap (λ t. cond t true (eqb (bit_at w i) 1)) (ne_eqb i k other))
]

without_bit : (w k i : ℕ) → k < 64 → i < 64
    → eqb (bit_at (bit_and w (bit_not w64 (1 * 2 ^ k % 2 ^ 64))) i) 1 ≡ cond (eqb i k) false (eqb (bit_at w i) 1)
without_bit w k i within below = elim (cases_eq i k) [
  | inl same ↦
      ap (λ j. eqb (bit_at (bit_and w (bit_not w64 (1 * 2 ^ k % 2 ^ 64))) j) 1) same
      ∙ ap (λ b. eqb b 1) (bit_at_clear_same w64 w k within)
      ∙ sym (ap (λ t. cond t false (eqb (bit_at w i) 1)) (eq-eqb i k same))
  | inr other ↦
      ap (λ b. eqb b 1) (bit_at_clear_other w64 w k within i below other)
      ∙ sym (ap (λ t. cond t false (eqb (bit_at w i) 1)) (ne_eqb i k other))
]

-- another word in a number's place, which differs in that bit alone
bits_set : (words : List ℕ) (n w : ℕ) (v : Bool) → n < 64 * length words
    → ((i : ℕ) → i < 64 → eqb (bit_at w i) 1 ≡ cond (eqb i (n % 64)) v (eqb (bit_at (get_or words (n / 64) 0) i) 1))
    → bits_of (set words (n / 64) w) ≡ set (bits_of words) n v
bits_set words n w v there is =
    let words' = set words (n / 64) w in
    let long : length words' ≡ length words = length-set words (n / 64) w in
    let many : length (bits_of words) ≡ 64 * length words = length-bits_of words in
    let many' : length (bits_of words') ≡ 64 * length words' = length-bits_of words' in
    let known : n / 64 < length words = omega arith in
    let within : n < length (bits_of words) = omega arith in
    same_lists (bits_of words') (set (bits_of words) n v)
    (omega (arith, length-set (bits_of words) n v)) (λ k d lt.
    let below : k < length (bits_of words) = omega arith in
    get_or_default (bits_of words') k d false lt ∙ bit_is words' k
    ∙ at k d below known within)
  where
    kept : (k : ℕ) (d : Bool) → k < length (bits_of words) → (k ≡ n → ⊥)
        → bit words k ≡ get_or (set (bits_of words) n v) k d
    kept k d below other =
        sym (get_or-set_other (bits_of words) n k v d other
        ∙ get_or_default (bits_of words) k d false below
        ∙ bit_is words k)

    in_word : (k : ℕ) (d : Bool) → k < length (bits_of words) → n < length (bits_of words) → k / 64 ≡ n / 64
        → cond (eqb (k % 64) (n % 64)) v (eqb (bit_at (get_or words (n / 64) 0) (k % 64)) 1)
        ≡ get_or (set (bits_of words) n v) k d
    in_word k d below within same =
        let old = bit_at (get_or words (n / 64) 0) (k % 64) in
        elim (cases_eq (k % 64) (n % 64)) [
          | inl equal ↦
              let all : k ≡ n = omega arith in
              ap (λ (t : Bool). cond t v (eqb old 1)) (eq-eqb (k % 64) (n % 64) equal)
              ∙ sym (ap (λ (j : ℕ). get_or (set (bits_of words) n v) j d) all
              ∙ get_or-set_same (bits_of words) n v d within)
          | inr unequal ↦
              ap (λ (t : Bool). cond t v (eqb old 1)) (ne_eqb (k % 64) (n % 64) unequal)
              ∙ ap (λ (j : ℕ). eqb (bit_at (get_or words j 0) (k % 64)) 1) (sym same)
              ∙ kept k d below (λ e. unequal (ap (λ (j : ℕ). j % 64) e))
        ]

    at : (k : ℕ) (d : Bool) → k < length (bits_of words) → n / 64 < length words → n < length (bits_of words)
        → bit (set words (n / 64) w) k ≡ get_or (set (bits_of words) n v) k d
    at k d below known within = elim (cases_eq (k / 64) (n / 64)) [
      | inl same ↦
          ap (λ (j : ℕ). eqb (bit_at (get_or (set words (n / 64) w) j 0) (k % 64)) 1) same
          ∙ ap (λ (x : ℕ). eqb (bit_at x (k % 64)) 1) (get_or-set_same words (n / 64) w 0 known)
          ∙ is (k % 64) (omega arith)
          ∙ in_word k d below within same
      | inr other ↦
          ap (λ (x : ℕ). eqb (bit_at x (k % 64)) 1) (get_or-set_other words (n / 64) (k / 64) w 0 other)
          ∙ kept k d below (λ e. other (ap (λ (j : ℕ). j / 64) e))
    ]

pub bits_inserted : (words : List ℕ) (n x : ℕ) → n < 64 * length words → x ≡ get_or words (n / 64) 0
    → bits_of (set words (n / 64) (bit_or x (1 * 2 ^ (n % 64) % 2 ^ 64))) ≡ set (bits_of words) n true
bits_inserted words n x there read =
    bits_set words n (bit_or x (1 * 2 ^ (n % 64) % 2 ^ 64)) true there (λ i below.
    with_bit x (n % 64) i (omega arith) below
    ∙ ap (λ (w : ℕ). cond (eqb i (n % 64)) true (eqb (bit_at w i) 1)) read)

pub bits_removed : (words : List ℕ) (n x : ℕ) → n < 64 * length words → x ≡ get_or words (n / 64) 0
    → bits_of (set words (n / 64) (bit_and x (bit_not w64 (1 * 2 ^ (n % 64) % 2 ^ 64)))) ≡ set (bits_of words) n false
bits_removed words n x there read =
    bits_set words n (bit_and x (bit_not w64 (1 * 2 ^ (n % 64) % 2 ^ 64))) false there (λ i below.
    without_bit x (n % 64) i (omega arith) below
    ∙ ap (λ (w : ℕ). cond (eqb i (n % 64)) false (eqb (bit_at w i) 1)) read)

-- ---- the first bit of a word from a number on

-- a word that was read of a slice of them all
pub was_read : (words slice : List ℕ) (i x : ℕ) → slice ≡ words → ((d : ℕ) → x ≡ get_or slice i d)
    → x ≡ get_or words i 0
was_read words slice i x same read = read 0 ∙ ap (λ (xs : List ℕ). get_or xs i 0) same

-- a bit of what is left of a word
bit_at_shr : (w b k : ℕ) → bit_at (w / 2 ^ b) k ≡ bit_at w (b + k)
bit_at_shr w b k =
    ap (λ (x : ℕ). x % 2) (div-div-eq-div-mul w (2 ^ b) (2 ^ k) ∙ ap (λ (p : ℕ). w / p) (sym (pow-add 2 b k)))

-- a number in the same word as an earlier one
bit_after : (words : List ℕ) (from n x : ℕ) → x ≡ get_or words (from / 64) 0 → from ≤ n → n / 64 ≡ from / 64
    → get_or (bits_of words) n false ≡ eqb (bit_at (x / 2 ^ (from % 64)) (n - from)) 1
bit_after words from n x read le same =
    let place : n % 64 ≡ from % 64 + (n - from) = omega arith in
    bit_is words n
    ∙ ap (λ (j : ℕ). eqb (bit_at (get_or words j 0) (n % 64)) 1) same
    ∙ ap (λ (w : ℕ). eqb (bit_at w (n % 64)) 1) (sym read)
    ∙ ap (λ (j : ℕ). eqb (bit_at x j) 1) place
    ∙ ap (λ (b : ℕ). eqb b 1) (sym (bit_at_shr x (from % 64) (n - from)))

pub none_in_word : (words : List ℕ) (from x : ℕ) → x ≡ get_or words (from / 64) 0 → x / 2 ^ (from % 64) ≡ 0
    → HasNone (bits_of words) from (from / 64 * 64 + 64)
none_in_word words from x read zero = λ n le lt.
    bit_after words from n x read le (omega arith)
    ∙ ap (λ (w : ℕ). eqb (bit_at w (n - from)) 1) zero
    ∙ ap (λ (b : ℕ). eqb b 1) (bit_at-zero (n - from))

-- past the words there is none
pub none_past : (words : List ℕ) (from to : ℕ) → length words ≤ from / 64 → HasNone (bits_of words) from to
none_past words from to high = λ n le lt. bit_is words n ∙ bit_past words n (omega arith)

-- what was found stays in the word
pub found_within : (from x : ℕ) → x < 2 ^ 64 → 0 < x / 2 ^ (from % 64)
    → from % 64 + trailing_zeros w64 (x / 2 ^ (from % 64)) < 64
found_within from x fits some =
    let rest = x / 2 ^ (from % 64) in
    let t = trailing_zeros w64 rest in
    let small : rest < 2 ^ 64 = omega (arith, shr_le x (from % 64)) in
    let found = bit_at-trailing_zeros w64 rest some small in
    elim (cases_lt (from % 64 + t) 64) [
      | inl low ↦ low
      | inr high ↦
          let gone : bit_at x (from % 64 + t) ≡ 0 = bit_at_above x 64 (from % 64 + t) fits high in
          let here : bit_at rest t ≡ bit_at x (from % 64 + t) = bit_at_shr x (from % 64) t in
          let set : bit_at rest t ≡ 1 = found.1 in
          absurd (omega arith)
    ]

pub first_in_word : (words : List ℕ) (from x : ℕ) → x ≡ get_or words (from / 64) 0 → x < 2 ^ 64
    → 0 < x / 2 ^ (from % 64)
    → IsFirstFrom (bits_of words) from (from + trailing_zeros w64 (x / 2 ^ (from % 64)))
first_in_word words from x read fits some =
    let rest = x / 2 ^ (from % 64) in
    let t = trailing_zeros w64 rest in
    let small : rest < 2 ^ 64 = omega (arith, shr_le x (from % 64)) in
    let found = bit_at-trailing_zeros w64 rest some small in
    let within : from % 64 + t < 64 = found_within from x fits some in
    record {
      later = omega arith;
      member =
          let back : from + t - from ≡ t = omega arith in
          bit_after words from (from + t) x read (omega arith) (omega arith)
          ∙ ap (λ (k : ℕ). eqb (bit_at rest k) 1) back
          ∙ ap (λ (b : ℕ). eqb b 1) found.1;
      first = λ n le lt.
          bit_after words from n x read le (omega arith)
          ∙ ap (λ (b : ℕ). eqb b 1) (found.2 (n - from) (omega arith));
    }
