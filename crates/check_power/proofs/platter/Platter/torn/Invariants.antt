use Rattle.std.proofs.Common.{take}
use Rattle.check_power.specs.Steps.{MayReach}
use Rattle.check_power.proofs.platter.Platter.torn.Given as goal

abbrev pub invariant-loop-step : goal.invariant-loop-step
invariant-loop-step g l = MayReach (take l.step-index l.self.steps.items) l.self.synced.items l.left.items
