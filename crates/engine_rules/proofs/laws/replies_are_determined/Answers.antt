use Rattle.engine_rules.proofs.Runs.{answered_alike, refused_only}
use Rattle.engine_rules.proofs.laws.replies_are_determined.Goals as goal

pub returns : goal.returns
returns c = record { refused = refused_only; answered = answered_alike }
