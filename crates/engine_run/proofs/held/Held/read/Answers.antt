use Rattle.std.proofs.Common.{rules}
use Rattle.std.specs.Prelude.{Ok, Err}
use Rattle.engine_calls.specs.declared.event.Answer.TheVariants as answer
use Rattle.engine_calls.specs.declared.event.Event.TheVariants as event
use Rattle.engine_rules.specs.Step.{reply_of}
use Rattle.engine_run.proofs.Lives.{lives_on}
use Rattle.engine_run.proofs.Replied.{reads_at, replied}
use Rattle.engine_run.proofs.held.Held.read.Goals as goal

pub returns-clause-replies : goal.returns-clause-replies
returns-clause-replies g c =
    let old = c.self.inside.engine in
    let new = c.read-result.new.self in
    replied g.S.PageStore g.D.LogDevice old new (event.Read c.args.page c.args.slot) answer.Number
    (Ok c.in-Ok.number) c.log_end-end.ensures.fit c.in-Ok.ensures.step c.in-Ok.ensures.store (search rules)
    c.log.ensures.pages c.log.ensures.records

pub returns-clause-at_once : goal.returns-clause-at_once
returns-clause-at_once g c =
    let old = c.self.inside.engine in
    let new = c.read-result.new.self in
    reads_at g.S.PageStore g.D.LogDevice old new c.args.page c.args.slot c.log_end-end.result c.in-Ok.number
    c.log_end-end.ensures.fit c.in-Ok.ensures.step c.in-Ok.ensures.store (search rules) c.log.ensures.pages
    c.log.ensures.records c.log_end-end.ensures.end

pub returns-in-Err-clause-replies : goal.returns-in-Err-clause-replies
returns-in-Err-clause-replies g c =
    let old = c.self.inside.engine in
    let new = c.read-result.new.self in
    replied g.S.PageStore g.D.LogDevice old new (event.Read c.args.page c.args.slot) answer.Number
    (Err c.in-Err.why) c.log_end-end.ensures.fit c.in-Err.ensures.step c.in-Err.ensures.store (search rules)
    c.log.ensures.pages c.log.ensures.records

pub invariant_of-self-2 : goal.invariant_of-self-2
invariant_of-self-2 g c = (
  search rules,
  lives_on g.G.Life.before c.self.inside.engine.state (event.Read c.args.page c.args.slot)
      (reply_of answer.Number (Ok c.in-Ok.number)) c.read-result.new.self.state c.self.invariant.1 c.in-Ok.ensures.step,
)
