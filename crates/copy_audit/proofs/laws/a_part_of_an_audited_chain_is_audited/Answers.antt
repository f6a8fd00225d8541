use Rattle.copy_audit.proofs.Audits.{part_audited}
use Rattle.copy_audit.proofs.laws.a_part_of_an_audited_chain_is_audited.Goals as goal

pub returns : goal.returns
returns c = part_audited
