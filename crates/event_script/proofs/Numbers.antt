-- The number that digits make, and numbers that are too large.
use Rattle.std.specs.Prelude.{ℕ, ◌≡◌, ◌+◌, ◌-◌, ◌*◌, ◌^◌, ◌<◌, ◌≤◌, ◌&&◌, suc, List, [], ◌∷◌, ◌++◌, length}
use Rattle.std.specs.Prelude.{Bool, true, false, nat_le, nat_lt, refl, Option, Some, None, SomeIff, if◌then◌else◌, take, get_or}
use Rattle.std.proofs.Common.{arith, sym, ap, ◌∙◌}
use Rattle.std.proofs.Math.Nat.{pow-le-pow_right, pow-suc}
use Rattle.std.proofs.lemmas.Bool.Decides.{nat_tests}
use Rattle.std.proofs.lemmas.List.{length-take-le, take_more}
use Rattle.event_script.specs.Words.{below, digits_after, is_digit, number_of}

-- a number of fewer than 19 digits leaves room for one more
pub room : (number i : ℕ) → number < 10 ^ i → i < 19 → number * 10 + 9 < 18446744073709551616
room number i small few =
    let one_more : 10 ^ suc i ≡ 10 ^ i * 10 = pow-suc 10 i in
    let most : 10 ^ suc i ≤ 10 ^ 19 = pow-le-pow_right (omega arith) {i = suc i} {j = 19} (omega arith) in
    omega (arith, one_more, most)

not_below : (bound number : ℕ) → bound ≤ number → below bound (Some number) ≡ None
not_below bound number large =
    let no : nat_lt number bound ≡ false = grind (arith, nat_tests) in
    ap (λ (b : Bool). if b then Some number else None) no

is_below : (bound number : ℕ) → number < bound → below bound (Some number) ≡ Some number
is_below bound number small =
    let yes : nat_lt number bound ≡ true = grind (arith, nat_tests) in
    ap (λ (b : Bool). if b then Some number else None) yes

-- a sum, where it fits
pub sum_below : (sum : Option ℕ) (a b : ℕ) → SomeIff sum (a + b < 18446744073709551616) (a + b)
    → sum ≡ below 18446744073709551616 (Some (a + b))
sum_below None a b large = sym (not_below 18446744073709551616 (a + b) (omega (arith, large)))
sum_below (Some s) a b small = ap Some small.1 ∙ sym (is_below 18446744073709551616 (a + b) small.0)

-- a word whose digits make no number that fits
no_number : (word : List ℕ) → below 18446744073709551616 (digits_after 0 word) ≡ None → None ≡ number_of word
no_number word none =
    elim (nat_le 1 (length word) && nat_le (length word) 20)
    as (λ b. None ≡ (if b then below 18446744073709551616 (digits_after 0 word) else None)) [
      | true ↦ sym none
      | false ↦ refl
    ]

-- behind digits that make a number
go_on : (number so_far : ℕ) (digits more : List ℕ) → digits_after number digits ≡ Some so_far
    → digits_after number (digits ++ more) ≡ digits_after so_far more
go_on number so_far [] more made =
    let same : number ≡ so_far = cc in
    ap (λ (n : ℕ). digits_after n more) same
go_on number so_far (byte ∷ bytes) more made =
    elim (is_digit byte)
    as (λ b. (if b then digits_after (number * 10 + (byte - 48)) bytes else None) ≡ Some so_far
    → (if b then digits_after (number * 10 + (byte - 48)) (bytes ++ more) else None)
    ≡ digits_after so_far more) [
      | true ↦ λ read. go_on (number * 10 + (byte - 48)) so_far bytes more read
      | false ↦ λ read. cc
    ] made

-- behind what makes no number
stop : (number : ℕ) (bytes more : List ℕ) → digits_after number bytes ≡ None
    → digits_after number (bytes ++ more) ≡ None
stop number [] more none = cc
stop number (byte ∷ bytes) more none =
    elim (is_digit byte)
    as (λ b. (if b then digits_after (number * 10 + (byte - 48)) bytes else None) ≡ None
    → (if b then digits_after (number * 10 + (byte - 48)) (bytes ++ more) else None) ≡ None) [
      | true ↦ λ none. stop (number * 10 + (byte - 48)) bytes more none
      | false ↦ λ none. refl
    ] none

-- the last byte is no digit
no_digit : (number : ℕ) (bytes : List ℕ) (last : ℕ) → is_digit last ≡ false
    → digits_after number (bytes ++ (last ∷ [])) ≡ None
no_digit number [] last other =
    ap (λ (b : Bool). if b then Some (number * 10 + (last - 48)) else None) other
no_digit number (byte ∷ bytes) last other =
    elim (is_digit byte)
    as (λ b. (if b then digits_after (number * 10 + (byte - 48)) (bytes ++ (last ∷ [])) else None) ≡ None) [
      | true ↦ no_digit (number * 10 + (byte - 48)) bytes last other
      | false ↦ refl
    ]

pub too_long : (word : List ℕ) → 20 < length word → None ≡ number_of word
too_long word long =
    let low : nat_le 1 (length word) ≡ true = grind (arith, nat_tests) in
    let high : nat_le (length word) 20 ≡ false = grind (arith, nat_tests) in
    sym (ap (λ (b : Bool). if b then below 18446744073709551616 (digits_after 0 word) else None)
    (ap (λ (b : Bool). b && nat_le (length word) 20) low ∙ high))

pub ends_badly : (word digits : List ℕ) (last : ℕ) → word ≡ digits ++ (last ∷ []) → is_digit last ≡ false
    → None ≡ number_of word
ends_badly word digits last e other =
    no_number word (ap (below 18446744073709551616) (ap (digits_after 0) e ∙ no_digit 0 digits last other))

pub begins_badly : (word digits : List ℕ) (last : ℕ) → word ≡ digits ++ (last ∷ []) → digits_after 0 digits ≡ None
    → None ≡ number_of word
begins_badly word digits last e none =
    no_number word (ap (below 18446744073709551616) (ap (digits_after 0) e ∙ stop 0 digits (last ∷ []) none))

-- the digits before the last one make a number
pub with_last : (word digits : List ℕ) (last number : ℕ) → word ≡ digits ++ (last ∷ []) → length word ≡ 20
    → digits_after 0 digits ≡ Some number → is_digit last ≡ true
    → number_of word ≡ below 18446744073709551616 (Some (number * 10 + (last - 48)))
with_last word digits last number e count made digit =
    let low : nat_le 1 (length word) ≡ true = grind (arith, nat_tests) in
    let high : nat_le (length word) 20 ≡ true = grind (arith, nat_tests) in
    ap (λ (b : Bool). if b then below 18446744073709551616 (digits_after 0 word) else None)
    (ap (λ (b : Bool). b && nat_le (length word) 20) low ∙ high)
    ∙ ap (λ (bytes : List ℕ). below 18446744073709551616 (digits_after 0 bytes)) e
    ∙ ap (below 18446744073709551616) (go_on 0 number digits (last ∷ []) made)
    ∙ ap (λ (b : Bool). below 18446744073709551616 (if b then Some (number * 10 + (last - 48)) else None)) digit

pub too_large : (word digits : List ℕ) (last number : ℕ) → word ≡ digits ++ (last ∷ []) → length word ≡ 20
    → digits_after 0 digits ≡ Some number → is_digit last ≡ true → 18446744073709551616 ≤ number * 10
    → None ≡ number_of word
too_large word digits last number e count made digit large =
    sym (with_last word digits last number e count made digit
    ∙ not_below 18446744073709551616 (number * 10 + (last - 48)) (omega arith))

-- one digit more in front
pub one_more : (text : List ℕ) (i number : ℕ) → i < length text → digits_after 0 (take i text) ≡ Some number
    → is_digit (get_or text i 0) ≡ true
    → digits_after 0 (take (i + 1) text) ≡ Some (number * 10 + (get_or text i 0 - 48))
one_more text i number within made digit =
    let b = get_or text i 0 in
    ap (digits_after 0) (take_more text i 0 within)
    ∙ go_on 0 number (take i text) (b ∷ []) made
    ∙ ap (λ (c : Bool). if c then Some (number * 10 + (b - 48)) else None) digit

-- a short word is a number
pub short : (text : List ℕ) (n number : ℕ) → 0 < n → n ≤ 19 → n ≤ length text
    → number < 18446744073709551616 → digits_after 0 (take n text) ≡ Some number
    → number_of (take n text) ≡ Some number
short text n number some few within small made =
    let count : length (take n text) ≡ n = length-take-le n text within in
    let low : nat_le 1 (length (take n text)) ≡ true = grind (arith, nat_tests) in
    let high : nat_le (length (take n text)) 20 ≡ true = grind (arith, nat_tests) in
    ap (λ (b : Bool). if b then below 18446744073709551616 (digits_after 0 (take n text)) else None)
    (ap (λ (b : Bool). b && nat_le (length (take n text)) 20) low ∙ high)
    ∙ ap (below 18446744073709551616) made
    ∙ is_below 18446744073709551616 number small

-- a digit more makes a number of a digit more
pub grows : (i number b : ℕ) → number < 10 ^ i → is_digit b ≡ true → number * 10 + (b - 48) < 10 ^ (i + 1)
grows i number b small digit =
    let same : i + 1 ≡ suc i = omega arith in
    let power : 10 ^ (i + 1) ≡ 10 ^ i * 10 = ap (λ (k : ℕ). 10 ^ k) same ∙ pow-suc 10 i in
    let high : b ≤ 57 = grind (arith, nat_tests, digit) in
    omega (arith, power, high)
