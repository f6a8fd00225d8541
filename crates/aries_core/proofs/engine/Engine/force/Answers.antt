use Rattle.engine_calls.specs.declared.refusal.Refusal.TheVariants.{LogFault}
use Rattle.aries_core.proofs.Uses.{force_failed, was_forced}
use Rattle.aries_core.proofs.engine.Engine.force.Goals.{in-Ok, in-Err}
use Rattle.aries_core.proofs.engine.Engine.force.Goals as goal

pub returns-clause-device : goal.returns-clause-device
returns-clause-device g c = elim c.match-force_log.branch [
  | in-Ok w ↦
      rw w.result-is
      (was_forced w.end.result w.in-Ok.ensures.called w.in-Ok.ensures.no_failure c.force_log.ensures.same_bound)
  | in-Err w ↦
      rw w.result-is
      (force_failed LogFault tt w.in-Err.ensures.last_call w.in-Err.ensures.cause c.force_log.ensures.same_bound
      w.in-Err.ensures.past_bound)
]
