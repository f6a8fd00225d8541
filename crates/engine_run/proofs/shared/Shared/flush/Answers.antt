use Rattle.engine_calls.specs.declared.event.Answer.TheVariants as answer
use Rattle.engine_run.specs.Replies.{MadeOn}
use Rattle.engine_run.proofs.Passes.{begin_refused, end_refused}
use Rattle.engine_run.proofs.shared.Shared.flush.Goals as goal

pub returns-in-Err : goal.returns-in-Err
returns-in-Err g c = record {
  flushed = tt;
  refused = begin_refused (MadeOn g.S.PageStore g.D.LogDevice) answer.Writing c.args.page c.begin_write-begun.ensures c.in-Err.is;
}

pub returns-in-Err-ended : goal.returns-in-Err-ended
returns-in-Err-ended g c = record {
  flushed = tt;
  refused = end_refused (MadeOn g.S.PageStore g.D.LogDevice) answer.Written c.args.page c.end_write-ended.ensures c.in-Err-ended.is;
}
