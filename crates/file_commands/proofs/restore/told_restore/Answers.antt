use Rattle.std.proofs.Common.{subst, sym, ◌∙◌}
use Rattle.file_commands.proofs.Statuses.{restore_is}
use Rattle.file_commands.specs.Statuses.{IsOfFault}
use Rattle.file_commands.proofs.restore.told_restore.Goals as goal

pub returns-clause-fault : goal.returns-clause-fault
returns-clause-fault g c = subst IsOfFault (sym (c.from.ensures ∙ c.restore_status.ensures)) (restore_is c.args.fault.now)
