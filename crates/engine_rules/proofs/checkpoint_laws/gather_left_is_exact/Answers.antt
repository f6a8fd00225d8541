use Rattle.std.proofs.Common.{false, refl}
use Rattle.engine_rules.specs.EngineState.{new_state}
use Rattle.engine_rules.proofs.CkptLaws.{left_is_exact}
use Rattle.engine_rules.proofs.checkpoint_laws.gather_left_is_exact.Goals as goal

pub returns : goal.returns
returns c = λ pages frames events replies s run. left_is_exact (new_state pages frames) events replies s false (λ some. refl) run
