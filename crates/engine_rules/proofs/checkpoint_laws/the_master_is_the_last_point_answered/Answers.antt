use Rattle.engine_rules.specs.EngineState.{new_state}
use Rattle.engine_rules.proofs.CkptLaws.{master_of_run, new_is_sized}
use Rattle.engine_rules.specs.CkptReplies.{new_size}
use Rattle.engine_rules.proofs.checkpoint_laws.the_master_is_the_last_point_answered.Goals as goal

pub returns : goal.returns
returns c = λ pages frames events replies new run.
    master_of_run (new_state pages frames) (new_size pages) events replies new (new_is_sized pages frames) run
