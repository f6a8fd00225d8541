-- A change forces nothing, so the log's device is as it was.
use Rattle.std.proofs.Common.{◌≡◌, ℕ, ap, rules}
use Rattle.std.specs.Prelude.{Result, Ok, Err, IfErr}
use Rattle.log_store.specs.declared.device.LogDevice as device
use Rattle.log_store.specs.Stores.{nothing}
use Rattle.engine_calls.specs.declared.event.Answer.TheVariants as answer
use Rattle.engine_calls.specs.declared.event.Event.TheVariants as event
use Rattle.engine_calls.specs.declared.refusal.Refusal.{Refusal}
use Rattle.engine_rules.specs.EngineState.{EngineState}
use Rattle.engine_rules.specs.EngineView.{EngineView}
use Rattle.engine_rules.specs.Step.{IsByDevice, Step, reply_of}
use Rattle.engine_rules.specs.Uses.{ForcesDevice}

-- its reply tells of no fault of the device
set_is_quiet : (old new : EngineState) (txn page slot number : ℕ) (why : Refusal)
    → Step old (event.Set txn page slot number) (Err why) new → ¬ IsByDevice why
set_is_quiet old new txn page slot number why step = search rules

add_is_quiet : (old new : EngineState) (txn page slot amount : ℕ) (why : Refusal)
    → Step old (event.Add txn page slot amount) (Err why) new → ¬ IsByDevice why
add_is_quiet old new txn page slot amount why step = search rules

set_keeps_end : (old new : EngineState) (txn page slot number : ℕ) (result : Result ℕ Refusal)
    → Step old (event.Set txn page slot number) (reply_of answer.Logged result) new → new.forced_end ≡ old.forced_end
set_keeps_end old new txn page slot number (Ok lsn) step = ap (λ (s : EngineState). s.forced_end) step.2
set_keeps_end old new txn page slot number (Err why) step = search rules

add_keeps_end : (old new : EngineState) (txn page slot amount : ℕ) (result : Result ℕ Refusal)
    → Step old (event.Add txn page slot amount) (reply_of answer.Logged result) new → new.forced_end ≡ old.forced_end
add_keeps_end old new txn page slot amount (Ok lsn) step = ap (λ (s : EngineState). s.forced_end) step.2
add_keeps_end old new txn page slot amount (Err why) step = search rules

module _ {S D : Type 0} (log : device.Ghosts D) (old new : EngineView S D) (same : new.device ≡ old.device) where
  forces_none : (result : Result ℕ Refusal) → new.state.forced_end ≡ old.state.forced_end → IfErr result (λ why. ¬ IsByDevice why)
      → ForcesDevice log.called log.synced log.failures log.fails_from old result new
  forces_none (Ok lsn) end other = record {
    called = nothing end same;
    forced_first = tt;
    last_call = tt;
    refused = tt;
    no_failure = ap log.failures same;
    sound = tt;
    cause = tt;
    same_bound = ap log.fails_from same;
    past_bound = tt;
  }
  forces_none (Err why) end other = record {
    called = tt;
    forced_first = λ by_store. nothing end same;
    last_call = λ by_device. absurd (other by_device);
    refused = λ no_device no_store. same;
    no_failure = tt;
    sound = λ no_device. ap log.failures same;
    cause = λ by_device. absurd (other by_device);
    same_bound = ap log.fails_from same;
    past_bound = λ by_device. absurd (other by_device);
  }

  pub set_forces_none : (txn page slot number : ℕ) (result : Result ℕ Refusal)
      → Step old.state (event.Set txn page slot number) (reply_of answer.Logged result) new.state
      → ForcesDevice log.called log.synced log.failures log.fails_from old result new
  set_forces_none txn page slot number (Ok lsn) step =
      forces_none (Ok lsn) (set_keeps_end old.state new.state txn page slot number (Ok lsn) step) tt
  set_forces_none txn page slot number (Err why) step =
      forces_none (Err why) (set_keeps_end old.state new.state txn page slot number (Err why) step)
      (set_is_quiet old.state new.state txn page slot number why step)

  pub add_forces_none : (txn page slot amount : ℕ) (result : Result ℕ Refusal)
      → Step old.state (event.Add txn page slot amount) (reply_of answer.Logged result) new.state
      → ForcesDevice log.called log.synced log.failures log.fails_from old result new
  add_forces_none txn page slot amount (Ok lsn) step =
      forces_none (Ok lsn) (add_keeps_end old.state new.state txn page slot amount (Ok lsn) step) tt
  add_forces_none txn page slot amount (Err why) step =
      forces_none (Err why) (add_keeps_end old.state new.state txn page slot amount (Err why) step)
      (add_is_quiet old.state new.state txn page slot amount why step)
