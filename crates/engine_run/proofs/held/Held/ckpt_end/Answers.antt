use Rattle.std.proofs.Common.{rules}
use Rattle.engine_calls.specs.declared.event.Answer.TheVariants as answer
use Rattle.engine_calls.specs.declared.event.Event.TheVariants as event
use Rattle.engine_run.proofs.Replied.{replied}
use Rattle.engine_rules.specs.Step.{reply_of}
use Rattle.engine_run.proofs.Lives.{ckpt_end_counts, lives_on}
use Rattle.engine_run.proofs.held.Held.ckpt_end.Goals as goal

pub invariant_of-self : goal.invariant_of-self
invariant_of-self g c = (
  ckpt_end_counts c.self.inside.book.total c.self.inside.engine.state
      (reply_of (λ p. answer.Point p.begin p.end p.redo) c.ckpt_end-result.result) c.ckpt_end-result.new.self.state
      c.self.invariant.0 c.ckpt_end-result.ensures.step,
  lives_on g.G.Life.before c.self.inside.engine.state event.CkptEnd (reply_of (λ p. answer.Point p.begin p.end p.redo) c.ckpt_end-result.result)
      c.ckpt_end-result.new.self.state c.self.invariant.1 c.ckpt_end-result.ensures.step,
)

pub returns-clause-replies : goal.returns-clause-replies
returns-clause-replies g c =
    let old = c.self.inside.engine in
    let new = c.ckpt_end-result.new.self in
    replied g.S.PageStore g.D.LogDevice old new event.CkptEnd (λ p. answer.Point p.begin p.end p.redo) c.ckpt_end-result.result
    c.log_end.ensures.fit c.ckpt_end-result.ensures.step (search rules) (search rules) c.log.ensures.pages
    c.log.ensures.records
