use Rattle.std.proofs.Common.{lit<, refl}
use Rattle.command_words.specs.Command.{audit_app}
use Rattle.command_words.proofs.ClapLemmas.{for_memory, matched, passed_up, taken}
use Rattle.command_words.proofs.AuditLemmas.{audited_log_given, audited_until_passed}
use Rattle.command_words.proofs.arguments.audit_matches.Goals as goal

pub returns-in_err-try_get_matches_from-clause-only :
    goal.returns-in_err-try_get_matches_from-clause-only
returns-in_err-try_get_matches_from-clause-only g c =
    for_memory _ _ audit_app _ _ c.in_ok-audit_command.ensures.app refl
    c.in_err-try_get_matches_from.ensures.kinds c.from_residual-in_err-try_get_matches_from.ensures.1

pub returns-in_err-try_get_matches_from-clause-explained :
    goal.returns-in_err-try_get_matches_from-clause-explained
returns-in_err-try_get_matches_from-clause-explained g c =
    passed_up 3 _ _ audit_app _ _ (lit< tt) refl c.in_ok-audit_command.ensures.app refl c.requires
    c.in_err-try_get_matches_from.ensures.kinds c.from_residual-in_err-try_get_matches_from.ensures.1

pub returns-clause-rows : goal.returns-clause-rows
returns-clause-rows g c = matched _ _ audit_app c.in_ok-try_get_matches_from.field-0
    c.in_ok-audit_command.ensures.app refl c.in_ok-try_get_matches_from.ensures.matches

pub returns-clause-taken : goal.returns-clause-taken
returns-clause-taken g c =
    taken _ _ audit_app c.in_ok-audit_command.ensures.app refl c.in_ok-try_get_matches_from.ensures.kinds

pub returns-clause-log : goal.returns-clause-log
returns-clause-log g c = audited_log_given c.in_ok-audit_command.field-0 c.in_ok-try_get_matches_from.field-0
    c.in_ok-audit_command.ensures.made c.in_ok-try_get_matches_from.ensures.parsed

pub returns-clause-until : goal.returns-clause-until
returns-clause-until g c = audited_until_passed c.in_ok-audit_command.field-0 c.in_ok-try_get_matches_from.field-0
    c.in_ok-audit_command.ensures.made c.in_ok-try_get_matches_from.ensures.parsed
