use Rattle.std.proofs.Common.{take}
use Rattle.check_power.specs.Steps.{MayReach}
use Rattle.check_power.proofs.platter.make_all.Given as goal

abbrev pub invariant-loop-step : goal.invariant-loop-step
invariant-loop-step l = MayReach (take l.step-index l.steps) l.initial.left.items l.left.items
