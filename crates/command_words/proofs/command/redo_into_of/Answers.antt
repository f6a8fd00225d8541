use Rattle.std.proofs.Common.{ap, codes, subst, ◌∙◌}
use Rattle.clap.specs.Words.{found_of, first_of, one_of}
use Rattle.clap.proofs.WalkLemmas.{first_value-rows, one_text-rows}
use Rattle.command_words.specs.Command.{IsFlag, IsTold}
use Rattle.command_words.proofs.command.redo_into_of.Goals as goal

pub returns-clause-ok : goal.returns-clause-ok
returns-clause-ok g c =
    let found = found_of c.in_ok-matches.matches in
    let rows = c.in_ok-matches.ensures.rows in (
      (c.requires, c.in_ok-matches.ensures.taken),
      c.get_str-output.ensures ∙ (first_value-rows found (codes "into") ∙ ap (first_of (codes "into")) rows),
      subst (λ o. IsFlag o c.get_flag-force.result)
          (one_text-rows (found_of c.in_ok-matches.matches) (codes "with_force") ∙ ap (one_of (codes "with_force")) rows)
          (c.get_flag-force.ensures.none, c.get_flag-force.ensures.value, c.get_flag-force.ensures.other),
      subst (λ found. IsTold (one_of (codes "until_lsn") found) c.number_in-until.result) rows c.number_in-until.ensures,
    )
