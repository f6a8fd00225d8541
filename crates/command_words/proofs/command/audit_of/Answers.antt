use Rattle.std.proofs.Common.{List, Option, [], ap, codes, subst, sym, ◌∙◌}
use Rattle.std.specs.Prelude.{unwrap_or}
use Rattle.clap.specs.Words.{Text, all_of, found_of, first_of, one_of}
use Rattle.clap.proofs.WalkLemmas.{first_value-rows, one_text-rows, raw_values-rows}
use Rattle.command_words.specs.Command.{IsFlag, IsTold}
use Rattle.command_words.proofs.command.audit_of.Goals as goal

pub returns-clause-ok : goal.returns-clause-ok
returns-clause-ok g c =
    let found = found_of c.in_ok-matches.matches in
    let rows = c.in_ok-matches.ensures.rows in (
      (c.requires, c.in_ok-matches.ensures.taken),
      ap (first_of (codes "log")) (sym rows)
          ∙ (sym (first_value-rows found (codes "log")) ∙ c.value_in-log.ensures),
      c.in_ok-archives.ensures ∙ ap (λ (o : Option (List Text)). unwrap_or o [])
          (raw_values-rows found (codes "archive") ∙ ap (all_of (codes "archive")) rows),
      c.get_str-master.ensures ∙ (first_value-rows found (codes "master") ∙ ap (first_of (codes "master")) rows),
      subst (λ o. IsFlag o c.get_flag-all.result)
          (one_text-rows found (codes "every") ∙ ap (one_of (codes "every")) rows)
          (c.get_flag-all.ensures.none, c.get_flag-all.ensures.value, c.get_flag-all.ensures.other),
      subst (λ found. IsTold (one_of (codes "until_lsn") found) c.number_in-until.result) rows c.number_in-until.ensures,
      c.get_str-manifest.ensures
          ∙ (first_value-rows found (codes "manifest_file") ∙ ap (first_of (codes "manifest_file")) rows),
      subst (λ o. IsFlag o c.get_flag-no_manifest.result)
          (one_text-rows found (codes "without_sums") ∙ ap (one_of (codes "without_sums")) rows)
          (c.get_flag-no_manifest.ensures.none, c.get_flag-no_manifest.ensures.value, c.get_flag-no_manifest.ensures.other),
    )
