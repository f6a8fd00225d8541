use Rattle.std.proofs.Common.{lit<, refl}
use Rattle.command_words.specs.Command.{redo_app}
use Rattle.command_words.proofs.ClapLemmas.{for_memory, passed_up, taken}
use Rattle.command_words.proofs.arguments.redo_matches.Goals as goal

pub returns-in_err-try_get_matches_from-clause-only :
    goal.returns-in_err-try_get_matches_from-clause-only
returns-in_err-try_get_matches_from-clause-only g c =
    for_memory _ _ redo_app _ _ c.in_ok-redo_command.ensures refl
    c.in_err-try_get_matches_from.ensures.kinds c.from_residual-in_err-try_get_matches_from.ensures.1

pub returns-in_err-try_get_matches_from-clause-explained :
    goal.returns-in_err-try_get_matches_from-clause-explained
returns-in_err-try_get_matches_from-clause-explained g c =
    passed_up 0 _ _ redo_app _ _ (lit< tt) refl c.in_ok-redo_command.ensures refl c.requires
    c.in_err-try_get_matches_from.ensures.kinds c.from_residual-in_err-try_get_matches_from.ensures.1

pub returns-clause-taken : goal.returns-clause-taken
returns-clause-taken g c =
    taken _ _ redo_app c.in_ok-redo_command.ensures refl c.in_ok-try_get_matches_from.ensures.kinds
