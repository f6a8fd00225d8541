use Rattle.engine_rules.proofs.Runs.{log_of_run}
use Rattle.engine_rules.proofs.laws.the_log_only_grows.Goals as goal

pub returns : goal.returns
returns c = log_of_run
