use Rattle.std.proofs.Common.{ap, codes, subst, ◌∙◌}
use Rattle.clap.specs.Words.{found_of, first_of, one_of}
use Rattle.clap.proofs.WalkLemmas.{first_value-rows, one_text-rows}
use Rattle.command_words.specs.Command.{IsFlag, IsFramesRead, IsNumberRead}
use Rattle.command_words.proofs.command.run_of.Goals as goal

pub returns-clause-ok : goal.returns-clause-ok
returns-clause-ok g c =
    let rows = c.in_ok-matches.ensures.rows in (
      (c.requires, c.in_ok-matches.ensures.taken),
      subst (λ found. IsNumberRead (one_of (codes "pages") found) c.pages_in-pages.result) rows c.pages_in-pages.ensures.read,
      subst (λ found. IsFramesRead (one_of (codes "frames") found) c.frames_in-frames.result) rows
          c.frames_in-frames.ensures.read,
      c.get_str-save.ensures ∙ (first_value-rows (found_of c.in_ok-matches.matches) (codes "save")
          ∙ ap (first_of (codes "save")) rows),
      subst (λ o. IsFlag o c.get_flag-manifest.result)
          (one_text-rows (found_of c.in_ok-matches.matches) (codes "manifest") ∙ ap (one_of (codes "manifest")) rows)
          (c.get_flag-manifest.ensures.none, c.get_flag-manifest.ensures.value, c.get_flag-manifest.ensures.other),
      subst (λ o. IsFlag o c.get_flag-strict.result)
          (one_text-rows (found_of c.in_ok-matches.matches) (codes "is_strict") ∙ ap (one_of (codes "is_strict")) rows)
          (c.get_flag-strict.ensures.none, c.get_flag-strict.ensures.value, c.get_flag-strict.ensures.other),
      subst (λ o. IsFlag o c.get_flag-force.result)
          (one_text-rows (found_of c.in_ok-matches.matches) (codes "with_force") ∙ ap (one_of (codes "with_force")) rows)
          (c.get_flag-force.ensures.none, c.get_flag-force.ensures.value, c.get_flag-force.ensures.other),
    )
