-- Calls that need a page in memory.
use Rattle.std.proofs.Common.{◌≡◌, ℕ, false}
use Rattle.std.specs.Prelude.{is_none, Some, None}
use Rattle.log_rules.specs.declared.pending_change.PendingChange.{PendingChange}
use Rattle.log_rules.specs.Savepoints.{savepoint}
use Rattle.engine_calls.specs.declared.event.Event.TheVariants as event
use Rattle.engine_rules.specs.EngineState.{EngineState, taken_back}
use Rattle.engine_rules.specs.Refusal.{active_refusal, frame_refusal, refusal}

-- a step back to a savepoint that has a change to take back
pub back_passes : (s : EngineState) (txn at : ℕ) (p : PendingChange) → active_refusal s txn ≡ None
    → is_none (savepoint s.log txn at) ≡ false → taken_back s txn at ≡ Some p → frame_refusal s p.page ≡ None
    → refusal s (event.UndoTo txn at) ≡ None
back_passes s txn at p active known taken free = rw (active, known, taken) free
