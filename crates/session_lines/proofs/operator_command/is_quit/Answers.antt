use Rattle.std.proofs.Common.{subst, sym, ◌∙◌}
use Rattle.std.specs.Prelude.{codes}
use Rattle.std.specs.Str.{IsTrimAscii}
use Rattle.std.proofs.lemmas.Bool.Decides.{Decides-eqb}
use Rattle.std.proofs.lemmas.Slice.Eq.{slice_eq-Decides}
use Rattle.session_lines.proofs.Spelled.{one_text}
use Rattle.session_lines.proofs.operator_command.is_quit.Goals as goal

pub returns : goal.returns
returns c =
    let text = c.trim_ascii.result.now in
    let decides = slice_eq-Decides Decides-eqb text c.as_slice.result.now c.eq.result c.eq.ensures in (
      λ is. subst (IsTrimAscii c.args.line.now) (decides.0 is ∙ c.as_slice.ensures) c.trim_ascii.ensures.value,
      λ says. decides.1 (one_text c.args.line.now text (codes "quit") c.trim_ascii.ensures.value says
          ∙ sym c.as_slice.ensures),
    )
