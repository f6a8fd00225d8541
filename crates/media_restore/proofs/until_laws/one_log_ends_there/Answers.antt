use Rattle.std.proofs.Common.{subst}
use Rattle.copy_audit.specs.Audit.{IsOfLog}
use Rattle.media_restore.proofs.Untils.{each_ends, front_of, one_log}
use Rattle.media_restore.proofs.until_laws.one_log_ends_there.Goals as goal

pub returns-clause-each : goal.returns-clause-each
returns-clause-each c = each_ends

pub returns-clause-front : goal.returns-clause-front
returns-clause-front c = front_of

pub returns-clause-only : goal.returns-clause-only
returns-clause-only c = one_log

pub returns-clause-restored : goal.returns-clause-restored
returns-clause-restored c = λ files input lsn ended pages until log it.
    one_log input lsn ended it.log until (subst (λ o. IsOfLog o it.log) log it.parts.of_log)
