use Rattle.engine_rules.specs.EngineState.{new_state}
use Rattle.engine_rules.proofs.PageLaws.{written_of_run}
use Rattle.engine_rules.proofs.laws.the_written_lsns_are_those_answered.Goals as goal

pub returns : goal.returns
returns c = λ pages frames events replies new run. written_of_run (new_state pages frames) events replies new run
