-- Words as they are spelled.
use Rattle.std.proofs.Common.{ℕ, ◌≡◌, ◌<◌, ◌≤◌, ◌+◌, ◌-◌, ◌*◌, ◌&&◌, List, [], ◌∷◌, Option, Bool, true, false, ap, arith, drop, get_or, refl, subst, suc, sym, take, take-append-drop, ◌++◌, ◌∙◌}
use Rattle.std.specs.Prelude.{Some, None, length, nat_le, nat_lt, if◌then◌else◌}
use Rattle.std.proofs.lemmas.Bool.Decides.{nat_tests}
use Rattle.std.proofs.Math.Seq.{drop-cons}
use Rattle.std.proofs.lemmas.Str.Ascii.{trim_ascii_is}
use Rattle.std.specs.Char.{is_ascii_whitespace}
use Rattle.std.specs.List.{prefix_len}
use Rattle.std.specs.Str.{IsTrimAscii}
use Rattle.session_lines.specs.Commands.{HasFirstWord, goes_on}
use Rattle.event_script.specs.Words.{below, digits_after, is_digit, number_of}

-- at most 20 digits are the number that they make, where it fits
pub digits_are : (digits : List ℕ) (number : ℕ) → 1 ≤ length digits → length digits ≤ 20 → number < 4294967296
    → digits_after 0 digits ≡ Some number → number_of digits ≡ Some number
digits_are digits number some few small made =
    let low : nat_le 1 (length digits) ≡ true = grind (arith, nat_tests) in
    let high : nat_le (length digits) 20 ≡ true = grind (arith, nat_tests) in
    let fits : nat_lt number 18446744073709551616 ≡ true = grind (arith, nat_tests) in
    ap (λ (b : Bool). if b then below 18446744073709551616 (digits_after 0 digits) else None)
    (ap (λ (b : Bool). b && nat_le (length digits) 20) low ∙ high)
    ∙ ap (below 18446744073709551616) made
    ∙ ap (λ (b : Bool). if b then Some number else None) fits

-- digits behind a number make no smaller one
digits_grow : (number made : ℕ) (digits : List ℕ) → digits_after number digits ≡ Some made → number ≤ made
digits_grow number made [] is =
    let same : number ≡ made = cc in
    omega (arith, same)
digits_grow number made (byte ∷ bytes) is =
    elim (is_digit byte)
    as (λ b. (if b then digits_after (number * 10 + (byte - 48)) bytes else None) ≡ Some made → number ≤ made) [
      | true ↦ λ more.
          let large = digits_grow (number * 10 + (byte - 48)) made bytes more in
          omega (arith, large)
      | false ↦ λ none. cc
    ] is

next_grows : (number made byte : ℕ) (bytes : List ℕ) → digits_after number (byte ∷ bytes) ≡ Some made
    → number * 10 + (byte - 48) ≤ made
next_grows number made byte bytes is =
    elim (is_digit byte)
    as (λ b. (if b then digits_after (number * 10 + (byte - 48)) bytes else None) ≡ Some made
    → number * 10 + (byte - 48) ≤ made) [
      | true ↦ λ more. digits_grow (number * 10 + (byte - 48)) made bytes more
      | false ↦ λ none. cc
    ] is

below_is : (found : Option ℕ) (made : ℕ) → below 18446744073709551616 found ≡ Some made → found ≡ Some made
below_is None made is = cc
below_is (Some number) made is =
    elim (nat_lt number 18446744073709551616)
    as (λ b. (if b then Some number else None) ≡ Some made → Some number ≡ Some made) [
      | true ↦ λ is. is
      | false ↦ λ is. cc
    ] is

digits_made : (digits : List ℕ) (made : ℕ) → number_of digits ≡ Some made → digits_after 0 digits ≡ Some made
digits_made digits made is =
    elim (nat_le 1 (length digits) && nat_le (length digits) 20)
    as (λ b. (if b then below 18446744073709551616 (digits_after 0 digits) else None) ≡ Some made
    → digits_after 0 digits ≡ Some made) [
      | true ↦ λ is. below_is (digits_after 0 digits) made is
      | false ↦ λ none. cc
    ] is

-- the number of some digits is no smaller than what the first of them make
pub number_grows : (digits : List ℕ) (so_far index made : ℕ) → index < length digits
    → digits_after so_far (drop index digits) ≡ digits_after 0 digits → number_of digits ≡ Some made
    → so_far * 10 + (get_or digits index 0 - 48) ≤ made
number_grows digits so_far index made within same is =
    next_grows so_far made (get_or digits index 0) (drop (suc index) digits)
    (ap (digits_after so_far) (sym (drop-cons digits index 0 within)) ∙ same ∙ digits_made digits made is)

-- a line has one text
pub one_text : (line first second : List ℕ) → IsTrimAscii line first → IsTrimAscii line second → first ≡ second
one_text line first second has also =
    let behind = drop (prefix_len is_ascii_whitespace line) line in
    trim_ascii_is line first behind refl has ∙ sym (trim_ascii_is line second behind refl also)

-- a text begins with what stands before a space
pub begins_before : (text : List ℕ) (end : ℕ) → end < length text → get_or text end 0 ≡ 32
    → HasFirstWord text (take end text)
begins_before text end within space =
    let rest = drop (suc end) text in
    let all : take end text ++ (32 ∷ rest) ≡ text =
    ap (λ (byte : ℕ). take end text ++ (byte ∷ rest)) (sym space)
    ∙ ap (λ (back : List ℕ). take end text ++ back) (sym (drop-cons text end 0 within))
    ∙ take-append-drop end text in
    subst (λ (whole : List ℕ). HasFirstWord whole (take end text)) all (goes_on (take end text) rest)
