-- Numbers in decimal digits, with no 0 and no plus in front.
use Rattle.std.proofs.Common.{◌≡◌, ◌≢◌, ◌<◌, ◌≤◌, ◌^◌, ℕ, List, ap, arith, eq-zero-or-pos, get_or, inl, inr, length, subst, sym, ◌∙◌}
use Rattle.std.specs.Prelude.{decimal, Err, None, Ok, Result}
use Rattle.std.specs.Result.{OkIff, result_ok}
use Rattle.std.specs.Str.Parse.{AllDigits, digits_value}
use Rattle.std.proofs.lemmas.Fmt.{decimal-digits_value, decimal_digit, decimal_injective, decimal_is_IsNumeral, first_decimal}
use Rattle.std.proofs.lemmas.Str.Parse.{IsNumeralModel, numerals_by_value, tells_digits}
use Rattle.database_files.specs.Found.{IsReadOf, SpellsNumber}

pub own : IsNumeralModel (AllDigits 10) (digits_value 10)
own = numerals_by_value (AllDigits 10) tells_digits

-- no such number begins with a 0, or with a plus
pub begins_above : (number : ℕ) (text : List ℕ) → SpellsNumber 64 number text → 48 < get_or text 0 0
begins_above number text it =
    subst (λ (bytes : List ℕ). 48 < get_or bytes 0 0) (sym it.spelled) (first_decimal number it.some it.fits)

pub begins_wrongly : (text : List ℕ) (byte : ℕ) → byte ≤ 48 → get_or text 0 0 ≡ byte
    → IsReadOf (SpellsNumber 64) text None
begins_wrongly text byte low is = λ number it. absurd (omega (arith, begins_above number text it))

above_0 : (number : ℕ) (text : List ℕ) → get_or text 0 0 ≢ 48 → decimal number ≡ text → 0 < number
above_0 number text first same = elim (eq-zero-or-pos number) [
  | inl zero ↦ absurd (first (sym (ap (λ (bytes : List ℕ). get_or bytes 0 0) (sym (decimal_digit 0 (omega arith)) ∙ ap decimal (sym zero) ∙ same))))
  | inr some ↦ some
]

-- what reading such a text answers
pub is_read : {E : Type 0} (text : List ℕ) (r : Result ℕ E) → get_or text 0 0 ≢ 48
    → OkIff r (AllDigits 10 text × (0 < length text) × (digits_value 10 text < 2 ^ 64)) (digits_value 10 text)
    → IsReadOf (SpellsNumber 64) text (result_ok r)
is_read text (Ok number) first read =
    let same : decimal number ≡ text =
    ap decimal read.1 ∙ decimal-digits_value own text read.0.0 read.0.1 (λ zero. absurd (first zero)) read.0.2 in
    record {
      some = above_0 number text first same;
      fits = subst (λ (n : ℕ). n < 2 ^ 64) (sym read.1) read.0.2;
      spelled = sym same;
    }
is_read text (Err why) first not = λ number it.
    let digits = decimal_is_IsNumeral number it.fits in
    not (
      subst (AllDigits 10) (sym it.spelled) digits.0.1,
      subst (λ (bytes : List ℕ). 0 < length bytes) (sym it.spelled) digits.0.0,
      subst (λ (n : ℕ). n < 2 ^ 64) (sym (ap (digits_value 10) it.spelled ∙ digits.1)) it.fits,
    )

-- what reading such a text as a number of 32 bits answers
pub is_short : {E : Type 0} (text : List ℕ) (long : ℕ) (r : Result ℕ E) → SpellsNumber 64 long text
    → OkIff r (long < 2 ^ 32) long → IsReadOf (SpellsNumber 32) text (result_ok r)
is_short text long (Ok number) spells read = record {
  some = subst (λ (n : ℕ). 0 < n) (sym read.1) spells.some;
  fits = subst (λ (n : ℕ). n < 2 ^ 32) (sym read.1) read.0;
  spelled = spells.spelled ∙ ap decimal (sym read.1);
}
is_short text long (Err why) spells not = λ number it.
    let fits : number < 2 ^ 64 = omega (arith, it.fits) in
    let same : number ≡ long = decimal_injective number long fits spells.fits (sym it.spelled ∙ spells.spelled) in
    not (subst (λ (n : ℕ). n < 2 ^ 32) same it.fits)
