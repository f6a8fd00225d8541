use Rattle.std.proofs.Common.{ap, codes, subst, sym, ◌∙◌}
use Rattle.clap.specs.Words.{found_of, first_of, one_of}
use Rattle.clap.proofs.WalkLemmas.{first_value-rows, one_text-rows}
use Rattle.command_words.specs.Command.{IsFlag}
use Rattle.command_words.proofs.view_words.list_of.Goals as goal

pub returns-clause-ok : goal.returns-clause-ok
returns-clause-ok g c =
    let found = found_of c.in_ok-matches.matches in
    let rows = c.in_ok-matches.ensures.rows in (
      (c.requires, c.in_ok-matches.ensures.taken),
      ap (first_of (codes "dir")) (sym rows)
          ∙ (sym (first_value-rows found (codes "dir")) ∙ c.value_in-folder.ensures),
      subst (λ o. IsFlag o c.get_flag-json.result)
          (one_text-rows found (codes "as_json") ∙ ap (one_of (codes "as_json")) rows)
          (c.get_flag-json.ensures.none, c.get_flag-json.ensures.value, c.get_flag-json.ensures.other),
      c.get_str-manifest.ensures
          ∙ (first_value-rows found (codes "manifest_file") ∙ ap (first_of (codes "manifest_file")) rows),
      subst (λ o. IsFlag o c.get_flag-no_manifest.result)
          (one_text-rows found (codes "without_sums") ∙ ap (one_of (codes "without_sums")) rows)
          (c.get_flag-no_manifest.ensures.none, c.get_flag-no_manifest.ensures.value, c.get_flag-no_manifest.ensures.other),
    )
