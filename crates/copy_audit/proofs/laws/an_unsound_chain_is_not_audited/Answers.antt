use Rattle.copy_audit.proofs.Audits.{unsound_apart}
use Rattle.copy_audit.proofs.laws.an_unsound_chain_is_not_audited.Goals as goal

pub returns : goal.returns
returns c = unsound_apart
