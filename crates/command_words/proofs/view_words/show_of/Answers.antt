use Rattle.std.proofs.Common.{ap, codes, subst, sym, ◌∙◌}
use Rattle.clap.specs.Words.{found_of, first_of, one_of}
use Rattle.clap.proofs.WalkLemmas.{first_value-rows, one_text-rows}
use Rattle.command_words.specs.Command.{IsFlag, IsTold}
use Rattle.command_words.proofs.view_words.show_of.Goals as goal

pub returns-clause-ok : goal.returns-clause-ok
returns-clause-ok g c =
    let found = found_of c.in_ok-matches.matches in
    let rows = c.in_ok-matches.ensures.rows in (
      (c.requires, c.in_ok-matches.ensures.taken),
      ap (first_of (codes "of")) (sym rows)
          ∙ (sym (first_value-rows found (codes "of")) ∙ c.value_in-file.ensures),
      subst (λ found. IsTold (one_of (codes "low") found) c.number_in-from.result) rows c.number_in-from.ensures,
      subst (λ found. IsTold (one_of (codes "high") found) c.number_in-to.result) rows c.number_in-to.ensures,
      subst (λ found. IsTold (one_of (codes "owner") found) c.number_in-txn.result) rows c.number_in-txn.ensures,
      subst (λ found. IsTold (one_of (codes "number") found) c.number_in-page.result) rows c.number_in-page.ensures,
      subst (λ o. IsFlag o c.get_flag-json.result)
          (one_text-rows found (codes "as_json") ∙ ap (one_of (codes "as_json")) rows)
          (c.get_flag-json.ensures.none, c.get_flag-json.ensures.value, c.get_flag-json.ensures.other),
      subst (λ o. IsFlag o c.get_flag-commits.result)
          (one_text-rows found (codes "finished") ∙ ap (one_of (codes "finished")) rows)
          (c.get_flag-commits.ensures.none, c.get_flag-commits.ensures.value, c.get_flag-commits.ensures.other),
    )
