use Rattle.std.proofs.Common.{rules, ◌≡◌}
use Rattle.engine_calls.specs.declared.event.Answer.TheVariants as answer
use Rattle.engine_calls.specs.declared.event.Event.TheVariants as event
use Rattle.engine_rules.specs.EngineState.{volume_pages}
use Rattle.engine_run.proofs.Replied.{replied_of}
use Rattle.engine_rules.specs.Step.{reply_of}
use Rattle.engine_run.proofs.Lives.{lives_on}
use Rattle.engine_run.proofs.held.Held.end_write.Goals as goal

pub invariant_of-self : goal.invariant_of-self
invariant_of-self g c = (
  search rules,
  lives_on g.G.Life.before c.self.inside.engine.state (event.WriteEnd c.args.page) (reply_of answer.Written c.write_end-ended.result)
      c.write_end-ended.new.self.state c.self.invariant.1 c.write_end-ended.ensures.step,
)

pub returns : goal.returns
returns g c =
    let old = c.self.inside.engine in
    let new = c.write_end-ended.new.self in
    let count : volume_pages new.state ≡ c.pages.result = search rules in
    replied_of g.S.PageStore g.D.LogDevice old new (event.WriteEnd c.args.page) answer.Written c.write_end-ended.result c.pages.result
    c.log_end.ensures.fit c.write_end-ended.ensures.step (search rules) (search rules) c.log-log.ensures.pages
    c.log-log.ensures.records count
