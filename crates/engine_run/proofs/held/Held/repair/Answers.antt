use Rattle.std.proofs.Common.{rules}
use Rattle.engine_calls.specs.declared.event.Answer.TheVariants as answer
use Rattle.engine_calls.specs.declared.event.Event.TheVariants as event
use Rattle.engine_run.proofs.Replied.{replied}
use Rattle.engine_rules.specs.Step.{reply_of}
use Rattle.engine_run.proofs.Lives.{lives_on}
use Rattle.engine_run.proofs.held.Held.repair.Goals as goal

pub invariant_of-self : goal.invariant_of-self
invariant_of-self g c = (
  search rules,
  lives_on g.G.Life.before c.self.inside.engine.state (event.Repair c.args.copy c.args.page) (reply_of answer.Repaired c.repair-result.result)
      c.repair-result.new.self.state c.self.invariant.1 c.repair-result.ensures.step,
)

pub returns-clause-replies : goal.returns-clause-replies
returns-clause-replies g c =
    let old = c.self.inside.engine in
    let new = c.repair-result.new.self in
    replied g.S.PageStore g.D.LogDevice old new (event.Repair c.args.copy c.args.page) answer.Repaired c.repair-result.result
    c.log_end.ensures.fit c.repair-result.ensures.step (search rules) (search rules) c.log.ensures.pages
    c.log.ensures.records
