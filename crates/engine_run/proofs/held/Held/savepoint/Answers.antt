use Rattle.std.proofs.Common.{rules}
use Rattle.engine_calls.specs.declared.event.Answer.TheVariants as answer
use Rattle.engine_calls.specs.declared.event.Event.TheVariants as event
use Rattle.engine_run.proofs.Replied.{replied}
use Rattle.engine_run.proofs.held.Held.savepoint.Goals as goal

pub returns-clause-replies : goal.returns-clause-replies
returns-clause-replies g c =
    let it = c.self.inside.engine in
    replied g.S.PageStore g.D.LogDevice it it (event.Savepoint c.args.txn) answer.Saved c.savepoint-result.result
    c.log_end.ensures.fit c.savepoint-result.ensures.step (search rules) (search rules) c.log.ensures.pages
    c.log.ensures.records
