-- Names of files that are not whole.
use Rattle.std.proofs.Common.{◌≡◌, ◌≢◌, ◌↔◌, ◌<◌, ◌≤◌, ◌+◌, ◌-◌, ◌++◌, ℕ, List, ap, arith, drop, get_or, inl, inr, length, length-append, subst, sym, take, ◌∙◌, Bool}
use Rattle.std.specs.Prelude.{codes}
use Rattle.std.specs.Char.{IsAsciiDigit, IsNotAsciiDigit}
use Rattle.std.specs.Bool.{IsTrue}
use Rattle.std.specs.List.{All, ends_with}
use Rattle.std.proofs.Math.Dec.{eqb}
use Rattle.std.proofs.lemmas.Bool.Decides.{Decides-eqb}
use Rattle.std.proofs.lemmas.Slice.Eq.{ends_is}
use Rattle.std.proofs.lemmas.Bool.{cases_lt}
use Rattle.std.proofs.lemmas.List.{append_assoc, append_cancel_left, get_or-append-add, get_or-drop, length-drop, nil_from_length, take-append-drop}
use Rattle.std.proofs.lemmas.List.Elements.{All-get_or, All-from_get_or}
use Rattle.std.proofs.Math.Seq.{take-append_seam}
use Rattle.file_outputs.specs.Unfinished.{AreDigits, IsUnfinishedOf, NamesUnfinished}

not_both : (c : ℕ) → IsAsciiDigit c → IsNotAsciiDigit c → ⊥
not_both c digit none = elim none [
  | inl below ↦ omega (arith, below, digit.0)
  | inr above ↦ omega (arith, above, digit.1)
]

-- behind the mark come digits alone
behind_mark : (n whole digits : List ℕ) (j : ℕ) → n ≡ whole ++ (codes ".unfinished-" ++ digits)
    → get_or n (length whole + (12 + j)) 0 ≡ get_or digits j 0
behind_mark n whole digits j is =
    ap (λ (it : List ℕ). get_or it (length whole + (12 + j)) 0) is
    ∙ get_or-append-add whole (codes ".unfinished-" ++ digits) (12 + j) 0
    ∙ get_or-append-add (codes ".unfinished-") digits j 0

at_mark : (n whole digits : List ℕ) → n ≡ whole ++ (codes ".unfinished-" ++ digits)
    → get_or n (length whole + 11) 0 ≡ 45
at_mark n whole digits is =
    ap (λ (it : List ℕ). get_or it (length whole + 11) 0) is
    ∙ get_or-append-add whole (codes ".unfinished-" ++ digits) 11 0

count_of : (n whole digits : List ℕ) → n ≡ whole ++ (codes ".unfinished-" ++ digits)
    → length n ≡ length whole + (12 + length digits)
count_of n whole digits is = ap (length {A = ℕ}) is
    ∙ length-append whole (codes ".unfinished-" ++ digits)
    ∙ ap (λ (it : ℕ). length whole + it) (length-append (codes ".unfinished-") digits)

-- the digits at the end begin behind the mark
pub begin_there : (n whole digits : List ℕ) (end : ℕ) → n ≡ whole ++ (codes ".unfinished-" ++ digits)
    → All IsAsciiDigit digits → end ≤ length n
    → ((at : ℕ) → end ≤ at → at < length n → IsAsciiDigit (get_or n at 0))
    → (0 < end → IsNotAsciiDigit (get_or n (end - 1) 0)) → end ≡ length whole + 12
begin_there n whole digits end is all bound front most =
    let count = count_of n whole digits is in
    elim (cases_lt end (length whole + 12)) [
      | inl below ↦
          let digit = front (length whole + 11) (omega (arith, below)) (omega (arith, count)) in
          absurd (omega (arith, (subst IsAsciiDigit (at_mark n whole digits is) digit).0))
      | inr above ↦ elim (cases_lt (length whole + 12) end) [
        | inl more ↦
            let j = end - 1 - (length whole + 12) in
            let place : end - 1 ≡ length whole + (12 + j) = omega (arith, more) in
            let same : get_or n (end - 1) 0 ≡ get_or digits j 0 =
            ap (λ (it : ℕ). get_or n it 0) place ∙ behind_mark n whole digits j is in
            let digit = All-get_or IsAsciiDigit digits j 0 (omega (arith, more, bound, count)) all in
            absurd (not_both (get_or digits j 0) digit (subst IsNotAsciiDigit same (most (omega (arith, more)))))
        | inr less ↦ omega (arith, above, less)
      ]
    ]

-- what stands before them ends with the mark
pub ends_so : (n whole digits : List ℕ) (end : ℕ) → n ≡ whole ++ (codes ".unfinished-" ++ digits)
    → end ≡ length whole + 12 → take end n ≡ whole ++ codes ".unfinished-"
ends_so n whole digits end is there =
    ap (take end) (is ∙ sym (append_assoc whole (codes ".unfinished-") digits))
    ∙ ap (λ (it : ℕ). take it (whole ++ codes ".unfinished-" ++ digits)) (there ∙ sym (length-append whole (codes ".unfinished-")))
    ∙ take-append_seam (whole ++ codes ".unfinished-") digits

-- and so does the name then
pub is_named : (n : List ℕ) (end : ℕ) → end < length n
    → ((at : ℕ) → end ≤ at → at < length n → IsAsciiDigit (get_or n at 0))
    → (whole : List ℕ) → take end n ≡ whole ++ codes ".unfinished-" → NamesUnfinished n
is_named n end some front whole ends =
    let count : length (drop end n) ≡ length n - end = length-drop end n in
    record {
      whole = whole;
      digits = drop end n;
      spelled = sym (take-append-drop end n) ∙ ap (λ (it : List ℕ). it ++ drop end n) ends ∙ append_assoc whole (codes ".unfinished-") (drop end n);
      some = λ none. omega (arith, some, count, ap (length {A = ℕ}) none);
      all = All-from_get_or IsAsciiDigit (drop end n) 0 (λ i within. subst IsAsciiDigit (sym (get_or-drop end n i 0)) (front (end + i) (omega arith) (omega (arith, within, count))));
    }

-- the test tells it
pub told : (n bytes front needle : List ℕ) (end : ℕ) (r : Bool) → bytes ≡ n
    → needle ≡ codes ".unfinished-" → front ≡ take end bytes → r ≡ ends_with eqb front needle
    → end < length bytes → ((at : ℕ) → end ≤ at → at < length bytes → IsAsciiDigit (get_or bytes at 0))
    → (0 < end → IsNotAsciiDigit (get_or bytes (end - 1) 0))
    → (IsTrue r → NamesUnfinished n) × (NamesUnfinished n → IsTrue r)
told n bytes front needle end r same mark cut tested some digits most =
    let decided = ends_is Decides-eqb front needle r tested in (
      (λ yes. subst NamesUnfinished same (is_named bytes end some digits (take (length front - length needle) front)
          (sym cut ∙ decided.0 yes ∙ ap (λ (it : List ℕ). take (length front - length needle) front ++ it) mark))),
      λ named.
          let is = same ∙ named.spelled in
          let there = begin_there bytes named.whole named.digits end is named.all (omega (arith, some)) digits most in
          decided.1 named.whole (cut ∙ ends_so bytes named.whole named.digits end is there ∙ ap (λ (it : List ℕ). named.whole ++ it) (sym mark)),
    )

-- nothing but digits stands there
pub none_told : (n bytes : List ℕ) (end : ℕ) → bytes ≡ n → length bytes ≤ end → end ≤ length bytes
    → (0 < end → IsNotAsciiDigit (get_or bytes (end - 1) 0)) → NamesUnfinished n → ⊥
none_told n bytes end same all bound most named =
    let is = same ∙ named.spelled in
    let there = begin_there bytes named.whole named.digits end is named.all bound (λ at above within. absurd (omega (arith, above, within, all))) most in
    named.some (nil_from_length named.digits (omega (arith, there, count_of bytes named.whole named.digits is, all, bound)))

-- what stands behind a name and the mark is the rest of the name
pub beside_is : (name n rest digits : List ℕ) (r : Bool) → n ≡ name ++ rest
    → rest ≡ codes ".unfinished-" ++ digits → IsTrue r ↔ AreDigits digits → IsTrue r ↔ IsUnfinishedOf name n
beside_is name n rest digits r cut mark decided = (
  (λ yes. record {
    digits = digits;
    spelled = cut ∙ ap (λ (it : List ℕ). name ++ it) mark;
    are = decided.0 yes;
  }),
  λ of.
      let same = append_cancel_left name rest (codes ".unfinished-" ++ of.digits) (sym cut ∙ of.spelled) in
      let digits_are = append_cancel_left (codes ".unfinished-") digits of.digits (sym mark ∙ same) in
      decided.1 (subst AreDigits (sym digits_are) of.are),
)

-- without the name in front it is none of it, and without the mark behind that neither
pub beside_none : (name n : List ℕ) → ((rest : List ℕ) → n ≢ name ++ rest) → IsUnfinishedOf name n → ⊥
beside_none name n none of = none (codes ".unfinished-" ++ of.digits) of.spelled

pub mark_none : (name n rest : List ℕ) → n ≡ name ++ rest
    → ((digits : List ℕ) → rest ≢ codes ".unfinished-" ++ digits) → IsUnfinishedOf name n → ⊥
mark_none name n rest cut none of =
    none of.digits (append_cancel_left name rest (codes ".unfinished-" ++ of.digits) (sym cut ∙ of.spelled))
