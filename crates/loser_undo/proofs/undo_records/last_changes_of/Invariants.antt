use Rattle.std.proofs.Common.{◌≡◌, ℕ, ◌<◌, length, get_or}
use Rattle.std.specs.Prelude.{Option}
use Rattle.log_records.specs.declared.limits.TheConstants.{MAX_OPEN}
use Rattle.loser_undo.specs.LastChanges.{last_change_at}
use Rattle.loser_undo.proofs.undo_records.last_changes_of.Given as goal

abbrev pub invariant-loop-place : goal.invariant-loop-place
invariant-loop-place l =
    (length l.last_changes ≡ MAX_OPEN)
    × ((place : ℕ) (d : Option ℕ) → place < l.place → get_or l.last_changes place d ≡ last_change_at l.losers place)
