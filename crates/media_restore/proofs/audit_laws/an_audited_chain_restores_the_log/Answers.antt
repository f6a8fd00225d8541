use Rattle.copy_audit.proofs.Public.{covering_of_audited}
use Rattle.media_restore.proofs.Audits.{sound_of_audited}
use Rattle.media_restore.proofs.audit_laws.an_audited_chain_restores_the_log.Goals as goal

pub returns-clause-covering : goal.returns-clause-covering
returns-clause-covering c = covering_of_audited

pub returns-clause-restores : goal.returns-clause-restores
returns-clause-restores c = sound_of_audited
