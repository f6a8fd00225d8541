use Rattle.std.proofs.Common.{ℕ, ◌*◌, ◌<◌, ◌≤◌}
use Rattle.log_prefix.specs.Remains.{EndsForce}
use Rattle.log_prefix.proofs.remains.first_force_end.Given as goal

abbrev pub invariant-loop-place : goal.invariant-loop-place
invariant-loop-place l = (at : ℕ) → l.fn.end ≤ at → at < l.place * 64 → ¬ EndsForce l.bytes at
