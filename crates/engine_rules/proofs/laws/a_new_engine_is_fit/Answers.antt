use Rattle.engine_rules.proofs.Fit.{new_is_fit}
use Rattle.engine_rules.proofs.laws.a_new_engine_is_fit.Goals as goal

pub returns : goal.returns
returns c = new_is_fit
