use Rattle.engine_rules.proofs.Fit.{fit_of_run}
use Rattle.engine_rules.proofs.laws.engines_stay_fit.Goals as goal

pub returns : goal.returns
returns c = fit_of_run
