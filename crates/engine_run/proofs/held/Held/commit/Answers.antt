use Rattle.std.proofs.Common.{arith, rules}
use Rattle.std.proofs.lemmas.Grind.{common_steps}
use Rattle.engine_calls.specs.declared.event.Answer.TheVariants as answer
use Rattle.engine_calls.specs.declared.event.Event.TheVariants as event
use Rattle.engine_run.proofs.Replied.{forces_commit, replied}
use Rattle.engine_rules.specs.Step.{reply_of}
use Rattle.engine_run.proofs.Lives.{lives_on}
use Rattle.engine_run.proofs.held.Held.commit.Goals as goal

pub invariant_of-self : goal.invariant_of-self
invariant_of-self g c = (
  grind (arith, common_steps),
  lives_on g.G.Life.before c.self.inside.engine.state (event.Commit c.args.txn) (reply_of answer.Logged c.commit-result.result)
      c.commit-result.new.self.state c.self.invariant.1 c.commit-result.ensures.step,
)

pub returns-then-has_commit-clause-replies : goal.returns-then-has_commit-clause-replies
returns-then-has_commit-clause-replies g c =
    let old = c.self.inside.engine in
    let new = c.commit-result.new.self in
    replied g.S.PageStore g.D.LogDevice old new (event.Commit c.args.txn) answer.Logged c.commit-result.result
    c.log_end.ensures.fit c.commit-result.ensures.step (search rules) (search rules) c.log.ensures.pages
    c.log.ensures.records

pub returns-then-has_commit-clause-forced : goal.returns-then-has_commit-clause-forced
returns-then-has_commit-clause-forced g c =
    let old = c.self.inside.engine in
    let new = c.commit-result.new.self in
    forces_commit g.S.PageStore g.D.LogDevice old new c.args.txn c.commit-result.result
    c.log_end.ensures.fit c.commit-result.ensures.step (search rules) c.commit-result.ensures.device
    c.log.ensures.pages c.log.ensures.records

pub returns-else-has_commit-clause-replies : goal.returns-else-has_commit-clause-replies
returns-else-has_commit-clause-replies g c =
    let old = c.self.inside.engine in
    let new = c.commit-result.new.self in
    replied g.S.PageStore g.D.LogDevice old new (event.Commit c.args.txn) answer.Logged c.commit-result.result
    c.log_end.ensures.fit c.commit-result.ensures.step (search rules) (search rules) c.log.ensures.pages
    c.log.ensures.records

pub returns-else-has_commit-clause-forced : goal.returns-else-has_commit-clause-forced
returns-else-has_commit-clause-forced g c =
    let old = c.self.inside.engine in
    let new = c.commit-result.new.self in
    forces_commit g.S.PageStore g.D.LogDevice old new c.args.txn c.commit-result.result
    c.log_end.ensures.fit c.commit-result.ensures.step (search rules) c.commit-result.ensures.device
    c.log.ensures.pages c.log.ensures.records
