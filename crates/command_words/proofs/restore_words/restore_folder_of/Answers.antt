use Rattle.std.proofs.Common.{ap, codes, subst, sym, ◌∙◌}
use Rattle.clap.specs.Words.{found_of, first_of, one_of}
use Rattle.clap.proofs.WalkLemmas.{first_value-rows, one_text-rows}
use Rattle.command_words.specs.Command.{IsFlag, IsTold}
use Rattle.command_words.proofs.restore_words.restore_folder_of.Goals as goal

pub returns-clause-ok : goal.returns-clause-ok
returns-clause-ok g c =
    let found = found_of c.in_ok-matches.matches in
    let rows = c.in_ok-matches.ensures.rows in (
      (c.requires, c.in_ok-matches.ensures.taken),
      ap (first_of (codes "dir")) (sym rows)
          ∙ (sym (first_value-rows found (codes "dir")) ∙ c.value_in-folder.ensures),
      subst (λ found. IsTold (one_of (codes "which") found) c.copy_in-copy.result) rows c.copy_in-copy.ensures.read,
      c.get_str-output.ensures ∙ (first_value-rows found (codes "into") ∙ ap (first_of (codes "into")) rows),
      c.get_str-log_output.ensures
          ∙ (first_value-rows found (codes "log_into") ∙ ap (first_of (codes "log_into")) rows),
      subst (λ o. IsFlag o c.get_flag-force.result)
          (one_text-rows found (codes "with_force") ∙ ap (one_of (codes "with_force")) rows)
          (c.get_flag-force.ensures.none, c.get_flag-force.ensures.value, c.get_flag-force.ensures.other),
      subst (λ found. IsTold (one_of (codes "until_lsn") found) c.number_in-until.result) rows c.number_in-until.ensures,
      c.get_str-manifest.ensures
          ∙ (first_value-rows found (codes "manifest_file") ∙ ap (first_of (codes "manifest_file")) rows),
      subst (λ o. IsFlag o c.get_flag-no_manifest.result)
          (one_text-rows found (codes "without_sums") ∙ ap (one_of (codes "without_sums")) rows)
          (c.get_flag-no_manifest.ensures.none, c.get_flag-no_manifest.ensures.value, c.get_flag-no_manifest.ensures.other),
    )
