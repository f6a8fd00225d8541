use Rattle.engine_rules.proofs.CkptLaws.{unforced_leaves}
use Rattle.engine_rules.proofs.checkpoint_laws.an_unforced_checkpoint_leaves_the_master.Goals as goal

pub returns : goal.returns
returns c = unforced_leaves
