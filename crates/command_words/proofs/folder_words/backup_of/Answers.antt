use Rattle.std.proofs.Common.{ap, codes, subst, sym, ◌∙◌}
use Rattle.clap.specs.Words.{found_of, first_of, one_of}
use Rattle.clap.proofs.WalkLemmas.{first_value-rows, one_text-rows}
use Rattle.command_words.specs.Command.{IsFlag, IsTold}
use Rattle.command_words.proofs.folder_words.backup_of.Goals as goal

pub returns-clause-ok : goal.returns-clause-ok
returns-clause-ok g c =
    let found = found_of c.in_ok-matches.matches in
    let rows = c.in_ok-matches.ensures.rows in (
      (c.requires, c.in_ok-matches.ensures.taken),
      ap (first_of (codes "dir")) (sym rows)
          ∙ (sym (first_value-rows found (codes "dir")) ∙ c.value_in-folder.ensures),
      subst (λ found. IsTold (one_of (codes "on") found) c.copy_in-on.result) rows c.copy_in-on.ensures.read,
      subst (λ o. IsFlag o c.get_flag-full.result)
          (one_text-rows found (codes "is_full") ∙ ap (one_of (codes "is_full")) rows)
          (c.get_flag-full.ensures.none, c.get_flag-full.ensures.value, c.get_flag-full.ensures.other),
      c.get_str-into.ensures ∙ (first_value-rows found (codes "into") ∙ ap (first_of (codes "into")) rows),
    )
