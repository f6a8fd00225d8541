-- What a call does to its store and its device, from what it did in its one step that may call them.
use Rattle.std.proofs.Common.{◌≡◌, ℕ, ◌<◌, ◌≤◌, ap}
use Rattle.std.specs.Prelude.{Result, Ok, Err}
use Rattle.log_store.specs.Stores.{StoreCall, SyncCall}
use Rattle.page_store.specs.Store.{GrowCall, ReadCall, WriteCall}
use Rattle.engine_calls.specs.declared.event.Answer.{Answer}
use Rattle.engine_calls.specs.declared.event.Event.{Event}
use Rattle.engine_calls.specs.declared.refusal.Refusal.{Refusal}
use Rattle.engine_calls.specs.declared.refusal.Refusal.TheVariants.{CommitUnsure, LogFault, StoreFault}
use Rattle.engine_rules.specs.Asked.{Asked, Asks, FailsAsking, asked}
use Rattle.engine_rules.specs.EngineState.{end}
use Rattle.engine_rules.specs.EngineView.{EngineView}
use Rattle.engine_rules.specs.Step.{FailsForcing, Forces, IsByDevice, IsByStore, Step, TellsOfFault}
use Rattle.engine_rules.specs.Storage.{CallOn, CallsDevice, CallsStore, IsStoredOn, Storage}
use Rattle.engine_rules.specs.Uses.{AsksStore, ForcesDevice}

-- ---- the store: it did what was asked, or failed
module _ {S D T : Type 0} {gave : ReadCall S} {wrote : WriteCall S} {grew : GrowCall S} {failures : S → ℕ} {ask : Asked}
    {old new : EngineView S D} where
  pub was_asked : (value : T) → Asks gave wrote grew ask old new → failures new.store ≡ failures old.store
      → AsksStore gave wrote grew failures ask old (Ok value) new
  was_asked value done same =
      record { asked = done; failed = tt; refused = tt; no_failure = same; cause = tt }

  pub asked_in_vain : FailsAsking gave wrote grew ask old new → failures old.store < failures new.store
      → AsksStore {T = T} gave wrote grew failures ask old (Err StoreFault) new
  asked_in_vain failed more = record {
    asked = tt;
    failed = λ by_store. failed;
    refused = λ other. absurd (other tt);
    no_failure = tt;
    cause = λ by_store. more;
  }

-- ---- the device: the log was forced, also where the store failed then, or the device failed
module _ {S D T : Type 0} {call : StoreCall D} {sync : SyncCall D} {failures fails_from : D → ℕ}
    {old new : EngineView S D} where
  pub was_forced : (value : T) → Forces call sync old new → failures new.device ≡ failures old.device
      → fails_from new.device ≡ fails_from old.device → ForcesDevice call sync failures fails_from old (Ok value) new
  was_forced value done same bound = record {
    called = done;
    forced_first = tt;
    last_call = tt;
    refused = tt;
    no_failure = same;
    sound = tt;
    cause = tt;
    same_bound = bound;
    past_bound = tt;
  }

  pub was_forced_first : Forces call sync old new → failures new.device ≡ failures old.device
      → fails_from new.device ≡ fails_from old.device
      → ForcesDevice {T = T} call sync failures fails_from old (Err StoreFault) new
  was_forced_first done same bound = record {
    called = tt;
    forced_first = λ by_store. done;
    last_call = λ by_device. absurd by_device;
    refused = λ no_device no_store. absurd (no_store tt);
    no_failure = tt;
    sound = λ no_device. same;
    cause = λ by_device. absurd by_device;
    same_bound = bound;
    past_bound = λ by_device. absurd by_device;
  }

  pub force_failed : (why : Refusal) → IsByDevice why → FailsForcing call sync old new
      → failures old.device < failures new.device → fails_from new.device ≡ fails_from old.device
      → fails_from old.device ≤ end new.state
      → ForcesDevice {T = T} call sync failures fails_from old (Err why) new
  force_failed why by failed more bound past = record {
    called = tt;
    forced_first = λ by_store. absurd (not_both why by by_store);
    last_call = λ by_device. failed;
    refused = λ no_device no_store. absurd (no_device by);
    no_failure = tt;
    sound = λ no_device. absurd (no_device by);
    cause = λ by_device. more;
    same_bound = bound;
    past_bound = λ by_device. past;
  }
    where
      not_both : (why : Refusal) → IsByDevice why → IsByStore why → ⊥
      not_both LogFault by by_store = by_store
      not_both (CommitUnsure lsn) by by_store = by_store
      not_both other by by_store = by

-- ---- one call of a run

module _ {S D : Type 0} (on : Storage S D) (fails_from : D → ℕ) (old : EngineView S D) (event : Event) where
  calls_store : (reply : Result Answer Refusal) (new : EngineView S D)
      → AsksStore on.gave on.wrote on.grew on.store_failures (asked old.state event) old reply new
      → CallsStore on.gave on.wrote on.grew event old reply new
  calls_store (Ok answer) new uses = uses.asked
  calls_store (Err StoreFault) new uses = uses.failed tt
  calls_store (Err other) new uses = uses.refused (λ h. h)

  calls_device : (reply : Result Answer Refusal) (new : EngineView S D)
      → ForcesDevice on.called on.synced on.device_failures fails_from old reply new
      → CallsDevice on.called on.synced old reply new
  calls_device (Ok answer) new uses = uses.called
  calls_device (Err LogFault) new uses = uses.last_call tt
  calls_device (Err (CommitUnsure lsn)) new uses = uses.last_call tt
  calls_device (Err StoreFault) new uses = uses.forced_first tt
  calls_device (Err other) new uses = uses.refused (λ h. h) (λ h. h)

  store_told : (reply : Result Answer Refusal) (new : EngineView S D)
      → AsksStore on.gave on.wrote on.grew on.store_failures (asked old.state event) old reply new
      → TellsOfFault IsByStore (on.store_failures old.store) reply (on.store_failures new.store)
  store_told (Ok answer) new uses = record { sound = λ h. uses.no_failure; fault = λ h. absurd h }
  store_told (Err why) new uses =
      record { sound = λ h. ap on.store_failures (uses.refused h); fault = uses.cause }

  device_told : (reply : Result Answer Refusal) (new : EngineView S D)
      → ForcesDevice on.called on.synced on.device_failures fails_from old reply new
      → TellsOfFault IsByDevice (on.device_failures old.device) reply (on.device_failures new.device)
  device_told (Ok answer) new uses = record { sound = λ h. uses.no_failure; fault = λ h. absurd h }
  device_told (Err why) new uses = record { sound = uses.sound; fault = uses.cause }

  -- what the contract of a call says of it
  pub call_on : (reply : Result Answer Refusal) (new : EngineView S D) → Step old.state event reply new.state
      → AsksStore on.gave on.wrote on.grew on.store_failures (asked old.state event) old reply new
      → ForcesDevice on.called on.synced on.device_failures fails_from old reply new
      → IsStoredOn on new → CallOn on old event reply new
  call_on reply new step store device stored = record {
    step = step;
    stored = stored;
    device = calls_device reply new device;
    store = calls_store reply new store;
    device_told = device_told reply new device;
    store_told = store_told reply new store;
  }
