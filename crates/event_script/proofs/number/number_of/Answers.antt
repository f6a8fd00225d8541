use Rattle.std.proofs.Common.{ℕ, ◌≤◌, ◌+◌, ◌-◌, ◌*◌, Some, sym, ap, ◌∙◌, arith}
use Rattle.event_script.specs.Words.{below}
use Rattle.event_script.proofs.Numbers.{begins_badly, ends_badly, sum_below, too_large, too_long, with_last}
use Rattle.event_script.proofs.number.number_of.Goals as goal
use Rattle.event_script.proofs.number.number_of.Goals.{then-word-gt-MAX_DIGITS-via-then-word-gt-MAX_DIGITS, then-word-gt-MAX_DIGITS-via-else-word-gt-MAX_DIGITS+then-not-is_ascii_digit}

pub returns-then-word-gt-MAX_DIGITS : goal.returns-then-word-gt-MAX_DIGITS
returns-then-word-gt-MAX_DIGITS c = elim c.then-word-gt-MAX_DIGITS.branch [
  | then-word-gt-MAX_DIGITS-via-then-word-gt-MAX_DIGITS w ↦ too_long c.args.word.now (omega arith)
  | then-word-gt-MAX_DIGITS-via-else-word-gt-MAX_DIGITS+then-not-is_ascii_digit w ↦
      ends_badly c.args.word.now c.in_ok-last.digits.now c.in_ok-last.last.now c.in_ok-last.ensures.cases.0
      (sym w.is_ascii_digit.ensures.value ∙ w.if-not-is_ascii_digit.true)
]

pub returns-in_err-short_number : goal.returns-in_err-short_number
returns-in_err-short_number c =
    c.from_residual-in_err-short_number.ensures
    ∙ begins_badly c.args.word.now c.in_ok-last.digits.now c.in_ok-last.last.now c.in_ok-last.ensures.cases.0
    (sym c.in_err-short_number.ensures)

pub returns-in_err-checked_mul : goal.returns-in_err-checked_mul
returns-in_err-checked_mul c =
    let number = c.in_ok-short_number.field-0 in
    let large : 18446744073709551616 ≤ number * 10 = omega (arith, c.in_err-checked_mul.ensures) in
    c.from_residual-in_err-checked_mul.ensures
    ∙ too_large c.args.word.now c.in_ok-last.digits.now c.in_ok-last.last.now number c.in_ok-last.ensures.cases.0
    (omega arith) (sym c.in_ok-short_number.ensures)
    (sym c.is_ascii_digit.ensures.value ∙ c.if-not-is_ascii_digit.false) large

pub returns : goal.returns
returns c =
    let number = c.in_ok-short_number.field-0 in
    let digit = c.in_ok-last.last.now - 48 in
    sum_below c.checked_add.result c.in_ok-checked_mul.field-0 digit c.checked_add.ensures
    ∙ ap (λ (n : ℕ). below 18446744073709551616 (Some (n + digit))) c.in_ok-checked_mul.ensures.1
    ∙ sym (with_last c.args.word.now c.in_ok-last.digits.now c.in_ok-last.last.now number
    c.in_ok-last.ensures.cases.0 (omega arith) (sym c.in_ok-short_number.ensures)
    (sym c.is_ascii_digit.ensures.value ∙ c.if-not-is_ascii_digit.false))
