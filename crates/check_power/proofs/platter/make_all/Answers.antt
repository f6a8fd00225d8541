use Rattle.check_power.proofs.Reached.{reach_next}
use Rattle.check_power.proofs.platter.make_all.Goals as goal

pub loop-step-preserved : goal.loop-step-preserved
loop-step-preserved c = reach_next c.args.steps.now c.loop-step.step-index c.step-item.result c.args.left.now.items
    c.loop-step.left.items c.make.new.left.items c.loop-step-test.true c.step-item.is c.loop-step.invariant
    c.in_ok-make.ensures
