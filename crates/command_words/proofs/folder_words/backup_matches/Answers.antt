use Rattle.std.proofs.Common.{lit<, refl}
use Rattle.command_words.specs.Command.{backup_app}
use Rattle.command_words.proofs.ClapLemmas.{for_memory, matched, passed_up, taken}
use Rattle.command_words.proofs.FolderLemmas.{backed_folder_given, copy_passed}
use Rattle.command_words.proofs.folder_words.backup_matches.Goals as goal

pub returns-in_err-try_get_matches_from-clause-only :
    goal.returns-in_err-try_get_matches_from-clause-only
returns-in_err-try_get_matches_from-clause-only g c =
    for_memory _ _ backup_app _ _ c.in_ok-backup_command.ensures.app refl
    c.in_err-try_get_matches_from.ensures.kinds c.from_residual-in_err-try_get_matches_from.ensures.1

pub returns-in_err-try_get_matches_from-clause-explained :
    goal.returns-in_err-try_get_matches_from-clause-explained
returns-in_err-try_get_matches_from-clause-explained g c =
    passed_up 8 _ _ backup_app _ _ (lit< tt) refl c.in_ok-backup_command.ensures.app refl c.requires
    c.in_err-try_get_matches_from.ensures.kinds c.from_residual-in_err-try_get_matches_from.ensures.1

pub returns-clause-rows : goal.returns-clause-rows
returns-clause-rows g c = matched _ _ backup_app c.in_ok-try_get_matches_from.field-0
    c.in_ok-backup_command.ensures.app refl c.in_ok-try_get_matches_from.ensures.matches

pub returns-clause-taken : goal.returns-clause-taken
returns-clause-taken g c =
    taken _ _ backup_app c.in_ok-backup_command.ensures.app refl c.in_ok-try_get_matches_from.ensures.kinds

pub returns-clause-folder : goal.returns-clause-folder
returns-clause-folder g c = backed_folder_given c.in_ok-backup_command.field-0 c.in_ok-try_get_matches_from.field-0
    c.in_ok-backup_command.ensures.made c.in_ok-try_get_matches_from.ensures.parsed

pub returns-clause-copy : goal.returns-clause-copy
returns-clause-copy g c = copy_passed c.in_ok-backup_command.field-0 c.in_ok-try_get_matches_from.field-0
    c.in_ok-backup_command.ensures.made c.in_ok-try_get_matches_from.ensures.parsed
