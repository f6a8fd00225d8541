use Rattle.std.proofs.Common.{ℕ, ◌≡◌, ◌<◌, ◌⊎◌, get_or}
use Rattle.database_opening.proofs.volume_file.begins_as_volume.Given as goal

abbrev pub invariant-loop-place : goal.invariant-loop-place
invariant-loop-place l = (k : ℕ) → k < l.place → (get_or l.bytes k 0 ≡ 0) ⊎ ((k ≡ 4) × (get_or l.bytes k 0 ≡ 1))
