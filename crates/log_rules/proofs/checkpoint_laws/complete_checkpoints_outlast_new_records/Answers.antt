use Rattle.log_rules.proofs.Completes.{complete_later}
use Rattle.log_rules.proofs.checkpoint_laws.complete_checkpoints_outlast_new_records.Goals as goal

pub returns : goal.returns
returns c = complete_later
