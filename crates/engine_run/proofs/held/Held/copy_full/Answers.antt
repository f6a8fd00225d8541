use Rattle.std.proofs.Common.{rules}
use Rattle.engine_calls.specs.declared.event.Answer.TheVariants as answer
use Rattle.engine_calls.specs.declared.event.Event.TheVariants as event
use Rattle.engine_rules.specs.Step.{reply_of}
use Rattle.engine_run.proofs.Lives.{lives_on}
use Rattle.engine_run.proofs.held.Held.copy_full.Goals as goal

pub invariant_of-self : goal.invariant_of-self
invariant_of-self g c = (
  search rules,
  lives_on g.G.Life.before c.self.inside.engine.state event.CopyFull (reply_of answer.Copied c.copy_full.result)
      c.copy_full.new.self.state c.self.invariant.1 c.copy_full.ensures.step,
)
