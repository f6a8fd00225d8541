use Rattle.std.proofs.Common.{arith}
use Rattle.std.proofs.lemmas.Grind.{common_steps}
use Rattle.engine_calls.specs.declared.event.Answer.TheVariants as answer
use Rattle.engine_calls.specs.declared.event.Event.TheVariants as event
use Rattle.engine_rules.specs.Step.{reply_of}
use Rattle.engine_run.proofs.Lives.{lives_on}
use Rattle.engine_run.proofs.held.Held.ckpt_begin.Goals as goal

pub invariant_of-self : goal.invariant_of-self
invariant_of-self g c = (
  grind (arith, common_steps),
  lives_on g.G.Life.before c.self.inside.engine.state event.CkptBegin (reply_of answer.Logged c.ckpt_begin.result)
      c.ckpt_begin.new.self.state c.self.invariant.1 c.ckpt_begin.ensures.step,
)
