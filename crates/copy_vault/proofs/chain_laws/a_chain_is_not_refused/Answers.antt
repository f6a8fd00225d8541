use Rattle.copy_vault.proofs.ChainOnly.{not_stopped, not_unmade}
use Rattle.copy_vault.proofs.chain_laws.a_chain_is_not_refused.Goals as goal

pub returns-clause-made : goal.returns-clause-made
returns-clause-made c = not_unmade

pub returns-clause-given : goal.returns-clause-given
returns-clause-given c = not_stopped
