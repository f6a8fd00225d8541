-- Calls of an engine on the page store and on the log's device that it was given.
use Rattle.std.specs.Prelude.{ℕ, ◌≡◌, ◌<◌, List, [], ◌∷◌, Result, Ok, Err}
use Rattle.page_core.specs.declared.page.Page.{Page}
use Rattle.log_store.specs.Stores.{HeaderFails, StoreCall, StoresHeader, SyncCall}
use Rattle.log_store.specs.WrittenLog.{IsWritten}
use Rattle.page_store.specs.Store.{GrowCall, IsGrown, ReadCall, WriteCall}
use Rattle.engine_calls.specs.declared.event.Answer.{Answer}
use Rattle.engine_calls.specs.declared.event.Event.{Event}
use Rattle.engine_calls.specs.declared.refusal.Refusal.{Refusal}
use Rattle.engine_calls.specs.declared.refusal.Refusal.TheVariants.{CommitUnsure, LogFault}
use Rattle.engine_calls.specs.declared.refusal.Refusal.TheVariants.{StoreFault}
use Rattle.engine_rules.specs.EngineState.{new_state}
use Rattle.engine_rules.specs.EngineView.{EngineView}
use Rattle.engine_rules.specs.Asked.{Asks, FailsAsking, asked}
use Rattle.engine_rules.specs.Step.{FailsForcing, Forces, IsByDevice, IsByStore, Step, TellsOfFault}
use Rattle.engine_rules.specs.Step.{written_log_of}

-- what contracts see of a store and of a device: what one store and one sync of the device did, the
-- bytes on it; what one read, one write and one growth of the store did, the stored pages; and how
-- often each of the two has failed
pub record Storage (S D : Type 0) : Type 1 where
  pub called : StoreCall D
  pub synced : SyncCall D
  pub bytes : D → List ℕ
  pub device_failures : D → ℕ
  pub gave : ReadCall S
  pub wrote : WriteCall S
  pub grew : GrowCall S
  pub stored : S → List Page
  pub store_failures : S → ℕ

-- the store has the pages that the state calls stored, and behind them none but formatted ones; and
-- the device has the records that it calls forced
pub record IsStoredOn {S D : Type 0} (on : Storage S D) (it : EngineView S D) : Type 0 where
  pub pages : IsGrown it.state.stored (on.stored it.store)
  pub records : IsWritten on.bytes (written_log_of it)

-- which calls of the device a call of the engine makes: where it is answered, or the store failed,
-- one for each record that is forced by it, and one sync; at a fault of the device these as far as
-- one that fails; else none
abbrev pub CallsDevice : {S D : Type 0} → StoreCall D → SyncCall D → EngineView S D
    → Result Answer Refusal → EngineView S D → Type 0
CallsDevice called synced old (Ok answer) new = Forces called synced old new
CallsDevice called synced old (Err LogFault) new = FailsForcing called synced old new
CallsDevice called synced old (Err (CommitUnsure lsn)) new = FailsForcing called synced old new
CallsDevice called synced old (Err StoreFault) new = Forces called synced old new
CallsDevice called synced old (Err other) new = new.device ≡ old.device

-- which calls of the store a call of the engine makes: where it is answered, the one that asks what
-- it has to ask, or none if that is nothing; where the store failed, that call, which failed; else
-- none
abbrev pub CallsStore : {S D : Type 0} → ReadCall S → WriteCall S → GrowCall S → Event → EngineView S D
    → Result Answer Refusal → EngineView S D → Type 0
CallsStore gave wrote grew event old (Ok answer) new =
    Asks gave wrote grew (asked old.state event) old new
CallsStore gave wrote grew event old (Err StoreFault) new =
    FailsAsking gave wrote grew (asked old.state event) old new
CallsStore gave wrote grew event old (Err other) new = new.store ≡ old.store

-- one call of an engine, with what it does to its store and its device; its reply tells of a fault
-- of one of them just where there was one in this call
pub record CallOn {S D : Type 0} (on : Storage S D) (old : EngineView S D) (event : Event)
    (reply : Result Answer Refusal) (new : EngineView S D) : Type 0 where
  pub step : Step old.state event reply new.state
  pub stored : IsStoredOn on new
  pub device : CallsDevice on.called on.synced old reply new
  pub store : CallsStore on.gave on.wrote on.grew event old reply new
  pub device_told : TellsOfFault IsByDevice
      (on.device_failures old.device) reply (on.device_failures new.device)
  pub store_told : TellsOfFault IsByStore
      (on.store_failures old.store) reply (on.store_failures new.store)

-- such calls, each of the engine, the store and the device that the one before it left
abbrev pub RunOn : {S D : Type 0} → Storage S D → EngineView S D → List Event
    → List (Result Answer Refusal) → EngineView S D → Type 0
RunOn on old [] [] new = new ≡ old
RunOn on old (event ∷ events) (reply ∷ replies) new =
    (mid : _) × CallOn on old event reply mid × RunOn on mid events replies new
RunOn on old [] (reply ∷ replies) new = ⊥
RunOn on old (event ∷ events) [] new = ⊥

-- a new engine on this store, which was not called, and on this device, which was called twice: the
-- log's header was stored and synced
pub record IsNewOn {S D : Type 0} (on : Storage S D) (pages frames : ℕ) (store : S) (device : D)
    (it : EngineView S D) : Type 0 where
  pub state : it.state ≡ new_state pages frames
  pub stored : IsStoredOn on it
  pub given : it.store ≡ store
  pub header : StoresHeader on.called on.synced pages device it.device
  pub no_failure : on.device_failures it.device ≡ on.device_failures device

-- a new engine of so many pages and frames, on this store and this device, gives these replies to
-- these events, and ends so
pub record PlaysOn {S D : Type 0} (on : Storage S D) (pages frames : ℕ) (store : S) (device : D)
    (events : List Event) (replies : List (Result Answer Refusal)) (last : EngineView S D)
    : Type 0 where
  pub first : EngineView S D
  pub made : IsNewOn on pages frames store device first
  pub run : RunOn on first events replies last

-- no engine is made on this device: it failed where the log's header was stored or synced, and is
-- left so
pub record FailsAtHeader {D : Type 0} (called : StoreCall D) (synced : SyncCall D)
    (failures : D → ℕ) (pages : ℕ) (device left : D) : Type 0 where
  pub failed : HeaderFails called synced pages device left
  pub more : failures device < failures left
