-- Ids in decimal digits, with no 0 and no plus in front.
use Rattle.std.proofs.Common.{◌≡◌, ◌≢◌, ◌<◌, ◌≤◌, ◌^◌, ℕ, List, ap, arith, eq-zero-or-pos, get_or, inl, inr, length, subst, sym, ◌∙◌}
use Rattle.std.specs.Prelude.{decimal, Err, None, Ok, Result}
use Rattle.std.specs.Result.{OkIff, result_ok}
use Rattle.std.specs.Str.Parse.{AllDigits, digits_value}
use Rattle.std.proofs.lemmas.Fmt.{decimal-digits_value, decimal_digit, decimal_is_IsNumeral, first_decimal}
use Rattle.std.proofs.lemmas.Str.Parse.{IsNumeralModel, numerals_by_value, tells_digits}
use Rattle.system_files.specs.CopyNames.{IsReadOf, SpellsId}

pub own : IsNumeralModel (AllDigits 10) (digits_value 10)
own = numerals_by_value (AllDigits 10) tells_digits

-- no id begins with a 0, or with a plus
pub begins_above : (id : ℕ) (text : List ℕ) → SpellsId id text → 48 < get_or text 0 0
begins_above id text it =
    let fits : id < 2 ^ 64 = omega (arith, it.fits) in
    subst (λ (bytes : List ℕ). 48 < get_or bytes 0 0) (sym it.spelled) (first_decimal id it.some fits)

pub begins_wrongly : (text : List ℕ) (byte : ℕ) → byte ≤ 48 → get_or text 0 0 ≡ byte → IsReadOf SpellsId text None
begins_wrongly text byte low is = λ id it. absurd (omega (arith, begins_above id text it))

above_0 : (id : ℕ) (text : List ℕ) → get_or text 0 0 ≢ 48 → decimal id ≡ text → 0 < id
above_0 id text first same = elim (eq-zero-or-pos id) [
  | inl zero ↦ absurd (first (sym (ap (λ (bytes : List ℕ). get_or bytes 0 0) (sym (decimal_digit 0 (omega arith)) ∙ ap decimal (sym zero) ∙ same))))
  | inr some ↦ some
]

-- what reading such a text answers
pub is_read : {E : Type 0} (text : List ℕ) (r : Result ℕ E) → get_or text 0 0 ≢ 48
    → OkIff r (AllDigits 10 text × (0 < length text) × (digits_value 10 text < 2 ^ 32)) (digits_value 10 text)
    → IsReadOf SpellsId text (result_ok r)
is_read text (Ok id) first read =
    let short : digits_value 10 text < 2 ^ 32 = read.0.2 in
    let same : decimal id ≡ text =
    ap decimal read.1 ∙ decimal-digits_value own text read.0.0 read.0.1 (λ zero. absurd (first zero)) (omega (arith, short)) in
    record {
      some = above_0 id text first same;
      fits = subst (λ (n : ℕ). n < 2 ^ 32) (sym read.1) short;
      spelled = sym same;
    }
is_read text (Err why) first not = λ id it.
    let fits : id < 2 ^ 64 = omega (arith, it.fits) in
    let digits = decimal_is_IsNumeral id fits in
    not (
      subst (AllDigits 10) (sym it.spelled) digits.0.1,
      subst (λ (bytes : List ℕ). 0 < length bytes) (sym it.spelled) digits.0.0,
      subst (λ (n : ℕ). n < 2 ^ 32) (sym (ap (digits_value 10) it.spelled ∙ digits.1)) it.fits,
    )
