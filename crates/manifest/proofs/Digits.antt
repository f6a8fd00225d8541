-- Bytes and their digits.
use Rattle.std.proofs.Common.{◌≡◌, ◌≢◌, ◌<◌, ◌≤◌, ◌+◌, ◌*◌, ◌/◌, ◌%◌, ◌++◌, ◌==◌, ◌&&◌, ℕ, zero, suc, Bool, true, false, cond, List, [], ◌∷◌, length, take, drop, slice_index, Option, Some, None, Result, Ok, Err, nat_lt}
use Rattle.std.proofs.Common.{refl, sym, ◌∙◌, ap, subst, arith, inl, inr, length-append, length-take-le}
use Rattle.std.specs.Char.{is_ascii_uppercase}
use Rattle.std.specs.Prelude.{MatchResult}
use Rattle.std.specs.Result.{result_unwrap_or}
use Rattle.std.proofs.lemmas.Bool.{and_parts, cases_lt, eqb-true}
use Rattle.std.proofs.lemmas.Bool.Decides.{nat_tests}
use Rattle.std.proofs.lemmas.List.{take-append-drop}
use Rattle.std.proofs.Math.Seq.{take-append_seam}
use Rattle.hex.specs.Hex.{IsBytes, decode_pairs, decode_sized, digit_or_error, encode_lower, encode_with, hex_digit_value, lower_digits, pair_value, value_at, ◌>>=◌}
use Rattle.hex.specs.declared.error.FromHexError.{FromHexError}
use Rattle.hex.proofs.HexLemmas.{decode_pairs-encode_with, decode_pairs-ok, IsDigits-lower_digits, length-encode_with}
use Rattle.manifest.specs.Entries.{IsOctets}
use Rattle.manifest.specs.Pieces.{HaveNoCapital}

-- what an `Ok` after `>>=` shows
bind_ok : {A B : Type 0} (r : Result A FromHexError) (f : A → Result B FromHexError) (y : B)
    → (r >>= f) ≡ Ok y → (x : A) × (r ≡ Ok x) × (f x ≡ Ok y)
bind_ok (Ok x) f y h = (x, refl, h)
bind_ok (Err e) f y h = cc h

-- the value of a digit that read
digit_read : (c i : ℕ) (o : Option ℕ) (v : ℕ) → digit_or_error c i o ≡ Ok v → o ≡ Some v
digit_read c i (Some w) v h = ap Some (ap (λ (r : Result ℕ FromHexError). result_unwrap_or r 0) h)
digit_read c i None v h = cc h

-- the digit of a value
abbrev glyph : ℕ → ℕ
glyph v = cond (nat_lt v 10) (48 + v) (87 + v)

abbrev are_glyphs : ℕ → Bool
are_glyphs zero = true
are_glyphs (suc n) = slice_index lower_digits n == glyph n && are_glyphs n

glyph_at : (n v : ℕ) → are_glyphs n ≡ true → v < n → slice_index lower_digits v ≡ glyph v
glyph_at zero v h lt = absurd (omega arith)
glyph_at (suc n) v h lt =
    let parts = and_parts (slice_index lower_digits n == glyph n) (are_glyphs n) h in
    elim (cases_lt v n) [
      | inl below ↦ glyph_at n v parts.1 below
      | inr top ↦
          let e : v ≡ n = omega arith in
          subst (λ (m : ℕ). slice_index lower_digits m ≡ glyph m) (sym e) (eqb-true (slice_index lower_digits n) (glyph n) parts.0)
    ]

-- a digit that is no capital is the glyph of its value
digit_is : (c v : ℕ) → hex_digit_value c ≡ Some v → is_ascii_uppercase c ≡ false → (v < 16) × (glyph v ≡ c)
digit_is c v h low = grind (arith, nat_tests)

digit_back : (c v : ℕ) → hex_digit_value c ≡ Some v → is_ascii_uppercase c ≡ false
    → (v < 16) × (slice_index lower_digits v ≡ c)
digit_back c v h low =
    let is = digit_is c v h low in
    (is.0, glyph_at 16 v refl is.0 ∙ is.1)

-- digits that are decoded are those of the bytes
spelled : (i : ℕ) (s bytes : List ℕ) → decode_pairs i s ≡ Ok bytes → HaveNoCapital s
    → s ≡ encode_lower bytes
unfolding decode_pairs encode_with
spelled i [] bytes h low =
    let e : [] ≡ bytes = ap (λ (r : Result (List ℕ) FromHexError). result_unwrap_or r []) h in
    ap encode_lower e
spelled i (a ∷ []) bytes h low = cc h
spelled i (a ∷ b ∷ rest) bytes h low =
    let p0 = bind_ok (pair_value a b i) _ bytes h in
    let p1 = bind_ok (value_at a i) _ p0.0 p0.1 in
    let p2 = bind_ok (value_at b (i + 1)) _ p0.0 p1.2 in
    let p3 = bind_ok (decode_pairs (i + 2) rest) _ bytes p0.2 in
    let whole : p0.0 ∷ p3.0 ≡ bytes = ap (λ (r : Result (List ℕ) FromHexError). result_unwrap_or r []) p3.2 in
    let byte : p1.0 * 16 + p2.0 ≡ p0.0 = ap (λ (r : Result ℕ FromHexError). result_unwrap_or r 0) p2.2 in
    let high = digit_back a p1.0 (digit_read a i (hex_digit_value a) p1.0 p1.1) low.0 in
    let last = digit_back b p2.0 (digit_read b (i + 1) (hex_digit_value b) p2.0 p2.1) low.1.0 in
    let rests = spelled (i + 2) rest p3.0 p3.1 low.1.1 in
    let hv = high.0 in
    let lv = last.0 in
    let first : p0.0 / 16 ≡ p1.0 = omega arith in
    let second : p0.0 % 16 ≡ p2.0 = omega arith in
    let da = ap (slice_index lower_digits) first ∙ high.1 in
    let db = ap (slice_index lower_digits) second ∙ last.1 in
    ap (λ (x : ℕ). x ∷ b ∷ rest) (sym da) ∙ ap (λ (x : ℕ). slice_index lower_digits (p0.0 / 16) ∷ x ∷ rest) (sym db)
    ∙ ap (λ (x : List ℕ). slice_index lower_digits (p0.0 / 16) ∷ slice_index lower_digits (p0.0 % 16) ∷ x) rests
    ∙ ap encode_lower whole

-- as many digits are decoded by pairs
by_pairs : (digits : List ℕ) (n : ℕ) → length digits ≡ 2 * n
    → decode_sized digits n ≡ decode_pairs 0 digits
by_pairs digits n long = grind (arith)

-- what was written where digits are decoded
filled : (d : Result (List ℕ) FromHexError) (r : Result Unit FromHexError) (new : List ℕ) → r ≡ Ok tt
    → MatchResult d (λ bytes. (r ≡ Ok tt) × (new ≡ bytes)) (λ e. r ≡ Err e) → d ≡ Ok new
filled (Ok bytes) r new ok h = ap Ok (sym h.1)
filled (Err e) r new ok h = cc h

pub digits_found : (bytes digits rest room new : List ℕ) (r : Result Unit FromHexError) → r ≡ Ok tt
    → digits ≡ take (2 * length room) bytes → rest ≡ drop (2 * length room) bytes
    → 2 * length room ≤ length bytes → HaveNoCapital digits
    → MatchResult (decode_sized digits (length room)) (λ bytes. (r ≡ Ok tt) × (new ≡ bytes)) (λ e. r ≡ Err e)
    → IsOctets (length room) new × (bytes ≡ encode_lower new ++ rest)
digits_found bytes digits rest room new r ok front back within low h =
    let n = length room in
    let long : length digits ≡ 2 * n = ap length front ∙ length-take-le (2 * n) bytes within in
    let read = sym (by_pairs digits n long) ∙ filled (decode_sized digits n) r new ok h in
    let facts = decode_pairs-ok 0 digits new read in
    let twice = facts.1 in (
      record { many = omega (arith, long, twice); bytes = facts.2 },
      sym (take-append-drop (2 * n) bytes) ∙ ap (λ (x : List ℕ). x ++ drop (2 * n) bytes) (sym front ∙ spelled 0 digits new read low)
          ∙ ap (λ (x : List ℕ). encode_lower new ++ x) (sym back),
    )

pub long_enough : (bytes wanted rest : List ℕ) (n : ℕ) → IsOctets n wanted
    → bytes ≡ encode_lower wanted ++ rest → 2 * n ≤ length bytes
long_enough bytes wanted rest n is e =
    let l = ap length e ∙ length-append (encode_lower wanted) rest in
    let many = is.many in
    omega (arith, l, length-encode_with lower_digits wanted, many)

pub front_is : (bytes digits wanted rest : List ℕ) (n : ℕ) → IsOctets n wanted
    → digits ≡ take (2 * n) bytes → bytes ≡ encode_lower wanted ++ rest → digits ≡ encode_lower wanted
front_is bytes digits wanted rest n is front e =
    let many = is.many in
    let long : 2 * n ≡ length (encode_lower wanted) = omega (arith, length-encode_with lower_digits wanted, many) in
    front ∙ ap (take (2 * n)) e ∙ ap (λ (m : ℕ). take m (encode_lower wanted ++ rest)) long
    ∙ take-append_seam (encode_lower wanted) rest

glyph_low : (v : ℕ) → v < 16 → is_ascii_uppercase (glyph v) ≡ false
glyph_low v lt = grind (arith, nat_tests)

low_at : (v : ℕ) → v < 16 → is_ascii_uppercase (slice_index lower_digits v) ≡ false
low_at v lt = ap is_ascii_uppercase (glyph_at 16 v refl lt) ∙ glyph_low v lt

-- no digit of bytes is a capital letter
pub no_capital : (bytes : List ℕ) → IsBytes bytes → HaveNoCapital (encode_lower bytes)
unfolding encode_with
no_capital [] is = tt
no_capital (b ∷ bytes) is =
    let small : b < 256 = is 0 in
    (low_at (b / 16) (omega arith), (low_at (b % 16) (omega arith), no_capital bytes (λ i. is (suc i))))

pub digits_low : (bytes digits wanted rest : List ℕ) (n : ℕ) → IsOctets n wanted
    → digits ≡ take (2 * n) bytes → bytes ≡ encode_lower wanted ++ rest → HaveNoCapital digits
digits_low bytes digits wanted rest n is front e =
    subst HaveNoCapital (sym (front_is bytes digits wanted rest n is front e)) (no_capital wanted is.bytes)

not_filled : (d : Result (List ℕ) FromHexError) (r : Result Unit FromHexError) (f : FromHexError) (new wanted : List ℕ)
    → r ≡ Err f → d ≡ Ok wanted → MatchResult d (λ bytes. (r ≡ Ok tt) × (new ≡ bytes)) (λ e. r ≡ Err e) → ⊥
not_filled (Ok bytes) r f new wanted err read h = let one = h.0 in cc
not_filled (Err e) r f new wanted err read h = cc

pub digits_none : (bytes digits room new : List ℕ) (r : Result Unit FromHexError) (f : FromHexError) → r ≡ Err f
    → digits ≡ take (2 * length room) bytes
    → MatchResult (decode_sized digits (length room)) (λ bytes. (r ≡ Ok tt) × (new ≡ bytes)) (λ e. r ≡ Err e)
    → (wanted rest : List ℕ) → IsOctets (length room) wanted → bytes ≢ encode_lower wanted ++ rest
digits_none bytes digits room new r f err front h wanted rest is e =
    let n = length room in
    let same = front_is bytes digits wanted rest n is front e in
    let many = is.many in
    let long : length digits ≡ 2 * n =
    ap length same ∙ length-encode_with lower_digits wanted ∙ ap (λ (m : ℕ). 2 * m) many in
    let read : decode_sized digits n ≡ Ok wanted =
    by_pairs digits n long ∙ ap (decode_pairs 0) same
    ∙ decode_pairs-encode_with lower_digits IsDigits-lower_digits 0 wanted is.bytes in
    not_filled (decode_sized digits n) r f new wanted err read h
