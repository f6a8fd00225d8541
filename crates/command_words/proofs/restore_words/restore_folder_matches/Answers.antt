use Rattle.std.proofs.Common.{lit<, refl}
use Rattle.command_words.specs.Command.{restore_folder_app}
use Rattle.command_words.proofs.ClapLemmas.{for_memory, matched, passed_up, taken}
use Rattle.command_words.proofs.FolderRestoreLemmas.{folder_until_passed, restored_copy_passed, restored_folder_given}
use Rattle.command_words.proofs.restore_words.restore_folder_matches.Goals as goal

pub returns-in_err-try_get_matches_from-clause-only :
    goal.returns-in_err-try_get_matches_from-clause-only
returns-in_err-try_get_matches_from-clause-only g c =
    for_memory _ _ restore_folder_app _ _ c.in_ok-restore_folder_command.ensures.app refl
    c.in_err-try_get_matches_from.ensures.kinds c.from_residual-in_err-try_get_matches_from.ensures.1

pub returns-in_err-try_get_matches_from-clause-explained :
    goal.returns-in_err-try_get_matches_from-clause-explained
returns-in_err-try_get_matches_from-clause-explained g c =
    passed_up 11 _ _ restore_folder_app _ _ (lit< tt) refl c.in_ok-restore_folder_command.ensures.app refl c.requires
    c.in_err-try_get_matches_from.ensures.kinds c.from_residual-in_err-try_get_matches_from.ensures.1

pub returns-clause-rows : goal.returns-clause-rows
returns-clause-rows g c = matched _ _ restore_folder_app c.in_ok-try_get_matches_from.field-0
    c.in_ok-restore_folder_command.ensures.app refl c.in_ok-try_get_matches_from.ensures.matches

pub returns-clause-taken : goal.returns-clause-taken
returns-clause-taken g c =
    taken _ _ restore_folder_app c.in_ok-restore_folder_command.ensures.app refl
    c.in_ok-try_get_matches_from.ensures.kinds

pub returns-clause-folder : goal.returns-clause-folder
returns-clause-folder g c =
    restored_folder_given c.in_ok-restore_folder_command.field-0 c.in_ok-try_get_matches_from.field-0
    c.in_ok-restore_folder_command.ensures.made c.in_ok-try_get_matches_from.ensures.parsed

pub returns-clause-copy : goal.returns-clause-copy
returns-clause-copy g c =
    restored_copy_passed c.in_ok-restore_folder_command.field-0 c.in_ok-try_get_matches_from.field-0
    c.in_ok-restore_folder_command.ensures.made c.in_ok-try_get_matches_from.ensures.parsed

pub returns-clause-until : goal.returns-clause-until
returns-clause-until g c =
    folder_until_passed c.in_ok-restore_folder_command.field-0 c.in_ok-try_get_matches_from.field-0
    c.in_ok-restore_folder_command.ensures.made c.in_ok-try_get_matches_from.ensures.parsed
