use Rattle.std.proofs.Common.{ℕ, ◌<◌}
use Rattle.database_opening.specs.OldVolume.{IsChangeAt}
use Rattle.database_opening.proofs.old_volume.has_change.Given as goal

abbrev pub invariant-loop-place : goal.invariant-loop-place
invariant-loop-place l = (k : ℕ) → k < l.place → ¬ IsChangeAt l.bytes k
