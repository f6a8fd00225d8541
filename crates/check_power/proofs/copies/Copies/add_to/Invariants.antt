use Rattle.std.proofs.Common.{◌≡◌}
use Rattle.check_power.proofs.copies.Copies.add_to.Given as goal

abbrev pub invariant-loop-it : goal.invariant-loop-it
invariant-loop-it l = l.restarted.log ≡ l.initial.restarted.log
