use Rattle.std.proofs.Common.{arith, rules}
use Rattle.std.proofs.lemmas.Grind.{common_steps}
use Rattle.engine_calls.specs.declared.event.Answer.TheVariants as answer
use Rattle.engine_calls.specs.declared.event.Event.TheVariants as event
use Rattle.engine_run.proofs.Replied.{replied}
use Rattle.engine_rules.specs.Step.{reply_of}
use Rattle.engine_run.proofs.Lives.{lives_on}
use Rattle.engine_run.proofs.held.Held.abort.Goals as goal

pub invariant_of-self : goal.invariant_of-self
invariant_of-self g c = (
  grind (arith, common_steps),
  lives_on g.G.Life.before c.self.inside.engine.state (event.Abort c.args.txn) (reply_of answer.Logged c.abort-result.result)
      c.abort-result.new.self.state c.self.invariant.1 c.abort-result.ensures.step,
)

pub returns-then-is_ok-clause-replies : goal.returns-then-is_ok-clause-replies
returns-then-is_ok-clause-replies g c =
    let old = c.self.inside.engine in
    let new = c.abort-result.new.self in
    replied g.S.PageStore g.D.LogDevice old new (event.Abort c.args.txn) answer.Logged c.abort-result.result
    c.log_end.ensures.fit c.abort-result.ensures.step (search rules) (search rules) c.log.ensures.pages
    c.log.ensures.records

pub returns-else-is_ok-clause-replies : goal.returns-else-is_ok-clause-replies
returns-else-is_ok-clause-replies g c =
    let old = c.self.inside.engine in
    let new = c.abort-result.new.self in
    replied g.S.PageStore g.D.LogDevice old new (event.Abort c.args.txn) answer.Logged c.abort-result.result
    c.log_end.ensures.fit c.abort-result.ensures.step (search rules) (search rules) c.log.ensures.pages
    c.log.ensures.records
