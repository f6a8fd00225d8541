use Rattle.std.proofs.Common.{List, ℕ, ap, arith, sym, ◌∙◌}
use Rattle.std.proofs.lemmas.List.{drop_all}
use Rattle.event_script.specs.Words.{digits_after}
use Rattle.session_lines.proofs.Spelled.{digits_are, number_grows}
use Rattle.session_lines.proofs.operator_command.copy_number.Goals as goal

pub returns-clause-is : goal.returns-clause-is
returns-clause-is c =
    digits_are c.args.digits.now c.loop-byte.number (omega arith) (omega arith) (omega arith)
    (sym c.loop-byte.invariant.made
    ∙ ap (λ (bytes : List ℕ). digits_after c.loop-byte.number bytes)
    (drop_all c.loop-byte.byte-index c.args.digits.now (omega arith)))

pub returns-in_err-checked_mul-clause-none : goal.returns-in_err-checked_mul-clause-none
returns-in_err-checked_mul-clause-none c = λ none number small is.
    let grows = number_grows c.args.digits.now c.loop-byte.number c.loop-byte.byte-index number (omega arith)
    c.loop-byte.invariant.made is in
    omega (arith, grows, small, c.in_err-checked_mul.ensures)

pub returns-in_err-number-clause-none : goal.returns-in_err-number-clause-none
returns-in_err-number-clause-none c = λ none number small is.
    let grows = number_grows c.args.digits.now c.loop-byte.number c.loop-byte.byte-index number (omega arith)
    c.loop-byte.invariant.made is in
    omega (arith, grows, small, c.in_err-number.ensures, c.in_ok-checked_mul.ensures)
