use Rattle.log_rules.proofs.Completes.{redo_not_past}
use Rattle.log_rules.proofs.checkpoint_laws.redo_points_are_not_past_their_begins.Goals as goal

pub returns : goal.returns
returns c = redo_not_past
