use Rattle.std.proofs.Common.{refl, subst}
use Rattle.session_lines.specs.Commands.{IsSpelled}
use Rattle.session_lines.proofs.Spelled.{one_text}
use Rattle.session_lines.proofs.operator_command.command_in.Goals as goal

pub returns-in_err-trouble_of-in-None-clause-none : goal.returns-in_err-trouble_of-in-None-clause-none
returns-in_err-trouble_of-in-None-clause-none c = λ none command spells.
    let text = c.trim_ascii-text.result.now in
    let same = one_text c.args.line.now spells.0 text spells.1 c.trim_ascii-text.ensures.value in
    c.in-None.ensures.none refl command (subst (λ it. IsSpelled it command) same spells.2)

pub returns-in_ok-trouble_of-in-None-clause-said : goal.returns-in_ok-trouble_of-in-None-clause-said
returns-in_ok-trouble_of-in-None-clause-said c =
    let text = c.trim_ascii-text.result.now in (
      c.in_ok-trouble_of-in-None.ensures.1 c.args.line.now (record {
        text = text;
        spelled = c.trim_ascii-text.ensures.value;
        first = c.first_word.result.now;
        is_first = c.in_ok-trouble_of-in-None.ensures.0;
        begins = c.first_word.ensures;
      }),
      λ command spells.
          let same = one_text c.args.line.now spells.0 text spells.1 c.trim_ascii-text.ensures.value in
          c.in-None.ensures.none refl command (subst (λ it. IsSpelled it command) same spells.2),
    )
