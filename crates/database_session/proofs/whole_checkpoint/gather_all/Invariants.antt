use Rattle.database_session.specs.CommandCalls.{GatherSteps, Runs}
use Rattle.database_session.proofs.whole_checkpoint.gather_all.Given as goal

abbrev pub invariant-loop : goal.invariant-loop
invariant-loop g l = Runs GatherSteps l.initial.engine.state l.engine.state
