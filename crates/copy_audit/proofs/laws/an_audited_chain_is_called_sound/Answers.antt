use Rattle.copy_audit.proofs.Audits.{refused_outside}
use Rattle.copy_audit.proofs.laws.an_audited_chain_is_called_sound.Goals as goal

pub returns : goal.returns
returns c = refused_outside
