use Rattle.std.proofs.Common.{ap, codes, subst, sym, ◌∙◌}
use Rattle.clap.specs.Words.{found_of, first_of, one_of}
use Rattle.clap.proofs.WalkLemmas.{first_value-rows, one_text-rows}
use Rattle.command_words.specs.Command.{IsFlag, IsFramesRead, IsTold}
use Rattle.command_words.proofs.open_words.open_of.Goals as goal

pub returns-clause-ok : goal.returns-clause-ok
returns-clause-ok g c =
    let found = found_of c.in_ok-matches.matches in
    let rows = c.in_ok-matches.ensures.rows in (
      (c.requires, c.in_ok-matches.ensures.taken),
      ap (first_of (codes "dir")) (sym rows)
          ∙ (sym (first_value-rows found (codes "dir")) ∙ c.value_in-folder.ensures),
      subst (λ found. IsTold (one_of (codes "pages") found) c.told_pages_in-pages.result) rows
          c.told_pages_in-pages.ensures.read,
      subst (λ found. IsFramesRead (one_of (codes "frames") found) c.frames_in-frames.result) rows
          c.frames_in-frames.ensures.read,
      subst (λ o. IsFlag o c.get_flag-salvage.result)
          (one_text-rows (found_of c.in_ok-matches.matches) (codes "is_salvage") ∙ ap (one_of (codes "is_salvage")) rows)
          (c.get_flag-salvage.ensures.none, c.get_flag-salvage.ensures.value, c.get_flag-salvage.ensures.other),
      subst (λ o. IsFlag o c.get_flag-strict.result)
          (one_text-rows (found_of c.in_ok-matches.matches) (codes "is_strict") ∙ ap (one_of (codes "is_strict")) rows)
          (c.get_flag-strict.ensures.none, c.get_flag-strict.ensures.value, c.get_flag-strict.ensures.other),
    )
