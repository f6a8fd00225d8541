use Rattle.std.proofs.Common.{lit<, refl}
use Rattle.command_words.specs.Command.{run_app}
use Rattle.command_words.proofs.ClapLemmas.{for_memory, matched, passed_up, taken}
use Rattle.command_words.proofs.RunLemmas.{frames_passed, pages_passed}
use Rattle.command_words.proofs.arguments.run_matches.Goals as goal

pub returns-in_err-try_get_matches_from-clause-only :
    goal.returns-in_err-try_get_matches_from-clause-only
returns-in_err-try_get_matches_from-clause-only g c =
    for_memory _ _ run_app _ _ c.in_ok-run_command.ensures.app refl
    c.in_err-try_get_matches_from.ensures.kinds c.from_residual-in_err-try_get_matches_from.ensures.1

pub returns-in_err-try_get_matches_from-clause-explained :
    goal.returns-in_err-try_get_matches_from-clause-explained
returns-in_err-try_get_matches_from-clause-explained g c =
    passed_up 1 _ _ run_app _ _ (lit< tt) refl c.in_ok-run_command.ensures.app refl c.requires
    c.in_err-try_get_matches_from.ensures.kinds c.from_residual-in_err-try_get_matches_from.ensures.1

pub returns-clause-rows : goal.returns-clause-rows
returns-clause-rows g c = matched _ _ run_app c.in_ok-try_get_matches_from.field-0
    c.in_ok-run_command.ensures.app refl c.in_ok-try_get_matches_from.ensures.matches

pub returns-clause-taken : goal.returns-clause-taken
returns-clause-taken g c =
    taken _ _ run_app c.in_ok-run_command.ensures.app refl c.in_ok-try_get_matches_from.ensures.kinds

pub returns-clause-pages : goal.returns-clause-pages
returns-clause-pages g c = pages_passed c.in_ok-run_command.field-0 c.in_ok-try_get_matches_from.field-0
    c.in_ok-run_command.ensures.made c.in_ok-try_get_matches_from.ensures.parsed

pub returns-clause-frames : goal.returns-clause-frames
returns-clause-frames g c = frames_passed c.in_ok-run_command.field-0 c.in_ok-try_get_matches_from.field-0
    c.in_ok-run_command.ensures.made c.in_ok-try_get_matches_from.ensures.parsed
