use Rattle.log_rules.proofs.Completes.{complete_by_end}
use Rattle.log_rules.proofs.checkpoint_laws.complete_checkpoints_are_known_by_their_ends.Goals as goal

pub returns : goal.returns
returns c = complete_by_end
