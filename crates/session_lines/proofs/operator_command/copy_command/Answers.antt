use Rattle.std.proofs.Common.{ℕ, List, ◌++◌, ap, arith, ◌∙◌}
use Rattle.std.proofs.lemmas.Slice.Eq.{strip_prefix_is}
use Rattle.std.proofs.lemmas.Bool.Decides.{Decides-eqb}
use Rattle.std.specs.Prelude.{Some}
use Rattle.session_lines.proofs.operator_command.copy_command.Goals as goal

pub returns-clause-is : goal.returns-clause-is
returns-clause-is c = (
  c.in_ok-digits.digits.now,
  strip_prefix_is Decides-eqb c.args.text.now c.as_slice-2.result.now (Some c.in_ok-digits.digits)
      c.in_ok-digits.ensures.cases
      ∙ ap (λ (front : List ℕ). front ++ c.in_ok-digits.digits.now) c.as_slice-2.ensures,
  c.in_ok-number.ensures.is,
  omega (arith),
)
