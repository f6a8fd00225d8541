-- The digits of a number.
use Rattle.std.proofs.Common.{◌≡◌, ◌<◌, ◌^◌, ℕ, List, length, Result, Ok, Err}
use Rattle.std.proofs.Common.{sym, ◌∙◌, ap, subst, arith, inl, inr}
use Rattle.std.specs.Prelude.{decimal, IsUtf8}
use Rattle.std.specs.Result.{result_unwrap_or}
use Rattle.std.specs.Str.Parse.{AllDigits, ParsesUnsigned}
use Rattle.std.proofs.lemmas.Bool.{cases_eq}
use Rattle.std.proofs.lemmas.Fmt.{decimal-digits_value, decimal_nonempty, decimal_digit, decimal_is_IsNumeral, first_decimal, IsAscii-decimal, parse-decimal}
use Rattle.std.proofs.lemmas.Str.{IsUtf8-from_ascii}
use Rattle.std.proofs.lemmas.Str.Parse.{digit_at, numerals_by_value, parse_plain, tells_digits}
use Rattle.manifest.specs.Pieces.{IsPlain}

-- the digits of a number are plain
pub decimal_plain : (n : ℕ) → n < 2 ^ 63 → IsPlain (decimal n)
decimal_plain n fits =
    let range = digit_at (decimal n) 0 (decimal_is_IsNumeral n (omega arith)).0.1 (decimal_nonempty n (omega arith)) in
    record {
      unsigned = λ e. omega (arith, range.0, e);
      lone = λ e. elim (cases_eq n 0) [
        | inl none ↦ ap (λ (m : ℕ). length (decimal m)) none ∙ ap length (decimal_digit 0 (omega arith))
        | inr some ↦ absurd (omega (arith, first_decimal n (omega arith) (omega arith), e))
      ];
    }

pub plain_of : (n : ℕ) (bs : List ℕ) → n < 2 ^ 63 → bs ≡ decimal n → IsPlain bs
plain_of n bs fits e = subst IsPlain (sym e) (decimal_plain n fits)

pub utf8_of : (n : ℕ) (bs : List ℕ) → n < 2 ^ 63 → bs ≡ decimal n → IsUtf8 bs
utf8_of n bs fits e = subst IsUtf8 (sym e) (IsUtf8-from_ascii (decimal n) (IsAscii-decimal n (omega arith)))

-- plain digits that are read are those of the number
pub decimal_of : (n : ℕ) (bs : List ℕ) → ParsesUnsigned {E = ℕ} 64 10 bs (Ok n) → IsPlain bs
    → bs ≡ decimal n
decimal_of n bs read plain =
    let own = numerals_by_value (AllDigits 10) tells_digits in
    let is = parse_plain own {E = ℕ} 64 bs (Ok n) read plain.unsigned in
    sym (ap decimal is.1 ∙ decimal-digits_value own bs is.0.0 is.0.1 plain.lone is.0.2)

-- what the digits of a number are read as
pub read_as : (n m : ℕ) (bs : List ℕ) → n < 2 ^ 63 → bs ≡ decimal n
    → ParsesUnsigned {E = ℕ} 64 10 bs (Ok m) → m ≡ n
read_as n m bs fits e read =
    let same = parse-decimal {E = ℕ} 64 n bs (Ok m) (omega arith) (omega arith) e read in
    ap (λ (r : Result ℕ ℕ). result_unwrap_or r 0) same

pub is_read : (n : ℕ) (bs : List ℕ) → n < 2 ^ 63 → bs ≡ decimal n
    → ParsesUnsigned {E = ℕ} 64 10 bs (Err 0) → ⊥
is_read n bs fits e read =
    let same = parse-decimal {E = ℕ} 64 n bs (Err 0) (omega arith) (omega arith) e read in cc
