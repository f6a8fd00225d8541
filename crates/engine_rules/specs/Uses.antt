-- What a call of an engine does to its page store and to its log's device, whatever it answers.
use Rattle.std.specs.Prelude.{ℕ, ◌≡◌, ◌<◌, ◌≤◌, Result, IfErr, OnOk}
use Rattle.log_store.specs.Stores.{StoreCall, SyncCall}
use Rattle.page_store.specs.Store.{GrowCall, ReadCall, WriteCall}
use Rattle.engine_calls.specs.declared.refusal.Refusal.{Refusal}
use Rattle.engine_rules.specs.Asked.{Asked, Asks, FailsAsking}
use Rattle.engine_rules.specs.EngineState.{end}
use Rattle.engine_rules.specs.EngineView.{EngineView}
use Rattle.engine_rules.specs.Step.{FailsForcing, Forces, IsByDevice, IsByStore}

-- the store is called at most once, for what is asked of it: it did this where the engine's call is
-- answered, and failed at it where that is refused by the store; else it was not called
pub record AsksStore {S D T : Type 0} (gave : ReadCall S) (wrote : WriteCall S) (grew : GrowCall S)
    (failures : S → ℕ) (ask : Asked) (old : EngineView S D) (result : Result T Refusal)
    (new : EngineView S D) : Type 0 where
  pub asked : OnOk result (Asks gave wrote grew ask old new)
  pub failed : IfErr result (λ why. IsByStore why → FailsAsking gave wrote grew ask old new)
  pub refused : IfErr result (λ why. ¬ IsByStore why → new.store ≡ old.store)
  pub no_failure : OnOk result (failures new.store ≡ failures old.store)
  pub cause : IfErr result (λ why. IsByStore why → failures old.store < failures new.store)

-- the device is called for each record that is forced, and then to sync them: all these calls were
-- made where the engine's call is answered, or is refused by the store; they end at one that failed
-- where it is refused by the device, at an offset that the log has reached; else none was made
pub record ForcesDevice {S D T : Type 0} (call : StoreCall D) (sync : SyncCall D)
    (failures fails_from : D → ℕ) (old : EngineView S D) (result : Result T Refusal)
    (new : EngineView S D) : Type 0 where
  pub called : OnOk result (Forces call sync old new)
  pub forced_first : IfErr result (λ why. IsByStore why → Forces call sync old new)
  pub last_call : IfErr result (λ why. IsByDevice why → FailsForcing call sync old new)
  pub refused : IfErr result (λ why. ¬ IsByDevice why → ¬ IsByStore why → new.device ≡ old.device)
  pub no_failure : OnOk result (failures new.device ≡ failures old.device)
  pub sound : IfErr result (λ why. ¬ IsByDevice why → failures new.device ≡ failures old.device)
  pub cause : IfErr result (λ why. IsByDevice why → failures old.device < failures new.device)
  pub same_bound : fails_from new.device ≡ fails_from old.device
  pub past_bound : IfErr result (λ why. IsByDevice why → fails_from old.device ≤ end new.state)
