use Rattle.engine_rules.proofs.Runs.{forced_end_of_run}
use Rattle.engine_rules.proofs.laws.the_forced_end_never_falls.Goals as goal

pub returns : goal.returns
returns c = forced_end_of_run
