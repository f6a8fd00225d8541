use Rattle.std.proofs.Common.{arith}
use Rattle.engine_run.specs.Replies.{MadeOn}
use Rattle.engine_run.proofs.Passes.{flushed_more, passed_all}
use Rattle.engine_run.proofs.shared.Shared.flush_pass.Goals as goal

pub loop-number-preserved : goal.loop-number-preserved
loop-number-preserved g c =
    flushed_more (MadeOn g.S.PageStore g.D.LogDevice) c.loop-number.number c.in_ok-pages.pages c.loop-number.invariant
    c.in_ok-pages.ensures.flushed

pub returns-clause-passes : goal.returns-clause-passes
returns-clause-passes g c =
    passed_all (MadeOn g.S.PageStore g.D.LogDevice) c.loop-number.number
    (omega (arith, c.loop-number-test.false, c.loop-number.auto.number-end)) c.loop-number.invariant
