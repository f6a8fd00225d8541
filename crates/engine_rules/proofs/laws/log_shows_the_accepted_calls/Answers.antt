use Rattle.engine_rules.proofs.Calls.{work_of_run}
use Rattle.engine_rules.proofs.laws.log_shows_the_accepted_calls.Goals as goal

pub returns : goal.returns
returns c = work_of_run
