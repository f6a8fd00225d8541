use Rattle.engine_rules.specs.EngineState.{new_state}
use Rattle.engine_rules.proofs.Catalogues.{copies_of_run}
use Rattle.engine_rules.proofs.CkptLaws.{new_is_sized}
use Rattle.engine_rules.specs.CkptReplies.{new_size}
use Rattle.engine_rules.proofs.copy_laws.the_copies_are_those_answered.Goals as goal

pub returns : goal.returns
returns c = λ pages frames events replies new run.
    copies_of_run (new_state pages frames) (new_size pages) events replies new (new_is_sized pages frames) run
