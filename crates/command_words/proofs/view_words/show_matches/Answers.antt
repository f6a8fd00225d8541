use Rattle.std.proofs.Common.{lit<, refl}
use Rattle.command_words.specs.Command.{show_app}
use Rattle.command_words.proofs.ClapLemmas.{for_memory, matched, passed_up, taken}
use Rattle.command_words.proofs.ViewLemmas.{file_given, from_passed, page_passed, to_passed, txn_passed}
use Rattle.command_words.proofs.view_words.show_matches.Goals as goal

pub returns-in_err-try_get_matches_from-clause-only :
    goal.returns-in_err-try_get_matches_from-clause-only
returns-in_err-try_get_matches_from-clause-only g c =
    for_memory _ _ show_app _ _ c.in_ok-show_command.ensures.app refl
    c.in_err-try_get_matches_from.ensures.kinds c.from_residual-in_err-try_get_matches_from.ensures.1

pub returns-in_err-try_get_matches_from-clause-explained :
    goal.returns-in_err-try_get_matches_from-clause-explained
returns-in_err-try_get_matches_from-clause-explained g c =
    passed_up 6 _ _ show_app _ _ (lit< tt) refl c.in_ok-show_command.ensures.app refl c.requires
    c.in_err-try_get_matches_from.ensures.kinds c.from_residual-in_err-try_get_matches_from.ensures.1

pub returns-clause-rows : goal.returns-clause-rows
returns-clause-rows g c = matched _ _ show_app c.in_ok-try_get_matches_from.field-0
    c.in_ok-show_command.ensures.app refl c.in_ok-try_get_matches_from.ensures.matches

pub returns-clause-taken : goal.returns-clause-taken
returns-clause-taken g c =
    taken _ _ show_app c.in_ok-show_command.ensures.app refl c.in_ok-try_get_matches_from.ensures.kinds

pub returns-clause-file : goal.returns-clause-file
returns-clause-file g c = file_given c.in_ok-show_command.field-0 c.in_ok-try_get_matches_from.field-0
    c.in_ok-show_command.ensures.made c.in_ok-try_get_matches_from.ensures.parsed

pub returns-clause-from : goal.returns-clause-from
returns-clause-from g c = from_passed c.in_ok-show_command.field-0 c.in_ok-try_get_matches_from.field-0
    c.in_ok-show_command.ensures.made c.in_ok-try_get_matches_from.ensures.parsed

pub returns-clause-to : goal.returns-clause-to
returns-clause-to g c = to_passed c.in_ok-show_command.field-0 c.in_ok-try_get_matches_from.field-0
    c.in_ok-show_command.ensures.made c.in_ok-try_get_matches_from.ensures.parsed

pub returns-clause-txn : goal.returns-clause-txn
returns-clause-txn g c = txn_passed c.in_ok-show_command.field-0 c.in_ok-try_get_matches_from.field-0
    c.in_ok-show_command.ensures.made c.in_ok-try_get_matches_from.ensures.parsed

pub returns-clause-page : goal.returns-clause-page
returns-clause-page g c = page_passed c.in_ok-show_command.field-0 c.in_ok-try_get_matches_from.field-0
    c.in_ok-show_command.ensures.made c.in_ok-try_get_matches_from.ensures.parsed
