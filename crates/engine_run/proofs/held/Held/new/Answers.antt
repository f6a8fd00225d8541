use Rattle.std.proofs.Common.{rules}
use Rattle.engine_run.proofs.Lives.{life_begins}
use Rattle.engine_run.proofs.held.Held.new.Goals as goal

pub invariant_of-result : goal.invariant_of-result
invariant_of-result g c = (
  search rules,
  life_begins g.G.Life.before c.args.engine.state c.log_end.ensures.fit c.requires.before,
)
