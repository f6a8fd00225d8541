use Rattle.engine_run.specs.Replies.{MadeOn}
use Rattle.engine_run.proofs.Copying.{taken_more}
use Rattle.engine_run.proofs.shared.Shared.take_in_order.Goals as goal

pub loop-number-preserved : goal.loop-number-preserved
loop-number-preserved g c =
    taken_more (MadeOn g.S.PageStore g.D.LogDevice) c.args.copy c.loop-number.number c.loop-number.invariant
    (c.in_ok-_took._took, c.in_ok-_took.ensures)
