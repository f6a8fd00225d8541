-- A page that a call needs in memory, and the change that is made of it there.
use Rattle.std.specs.Prelude.{ℕ, ◌≡◌, ◌<◌, true, false, Bool, List, Ok, Err, Result, IfErr, OnOk}
use Rattle.std.specs.Prelude.{if◌then◌else◌, slice_index_or}
use Rattle.page_core.specs.declared.change.Change.{Change}
use Rattle.page_core.specs.declared.change.Change.TheVariants.{Set, Add}
use Rattle.page_core.specs.declared.page.Page.{Page}
use Rattle.page_core.specs.Page.{formatted}
use Rattle.page_store.specs.declared.store.StoreFault.{StoreFault}
use Rattle.page_store.specs.Store.{ReadCall}
use Rattle.buffer_pool.specs.Frames.{fetched, is_full, is_resident}
use Rattle.buffer_pool.specs.Pool.{PoolView, is_clean, written_of}
use Rattle.log_records.specs.Log.{Log}
use Rattle.engine_calls.specs.declared.refusal.Refusal.{Refusal}
use Rattle.engine_calls.specs.declared.refusal.Refusal.TheVariants as refusal
use Rattle.engine_rules.specs.Step.{IsByStore}

-- the change, with this number before it where it is a Set
abbrev pub with_before : Change → ℕ → Change
with_before (Set before after) number = Set number after
with_before (Add amount) number = Add amount

-- a page is in memory, or a frame can be had for it
abbrev pub CanComeIn : {S : Type 0} → Log → ℕ → PoolView S → Type 0
CanComeIn log page pool =
    is_resident pool.resident page ≡ false
    → is_full pool.frames (is_clean log.records (written_of pool.states)) pool.resident ≡ false

-- the pages in memory once this one is there: where it is not yet, it is fetched
abbrev pub resident_with : {S : Type 0} → (S → List Page) → Log → ℕ → PoolView S → List Page
resident_with stored log page pool =
    if is_resident pool.resident page then pool.resident
    else fetched pool.frames (is_clean log.records (written_of pool.states)) pool.resident
    (slice_index_or (stored pool.store) page (formatted page))

-- of a pool into which a page came, or did not, all else stays
pub record StaysBeside {S : Type 0} (stored : S → List Page) (old new : PoolView S) : Type 0 where
  pub frames : new.frames ≡ old.frames
  pub states : new.states ≡ old.states
  pub pages : stored new.store ≡ stored old.store

-- why a page, which is in memory or is not, does not come there: for want of memory, or since the
-- store failed at one that is not there
abbrev pub FailsReading : Bool → Refusal → Type 0
FailsReading there refusal.OutOfMemory = Unit {0}
FailsReading there refusal.StoreFault = there ≡ false
FailsReading there other = ⊥

-- what became of the store: a page that is not in memory was read from it, or that call failed
pub record ReadsPage {S T : Type 0} (gave : ReadCall S) (stored : S → List Page)
    (failures : S → ℕ) (there : Bool) (page : ℕ) (old : S) (result : Result T Refusal)
    (new : S) : Type 0 where
  pub resident : OnOk result (there ≡ true → new ≡ old)
  pub read : OnOk result (there ≡ false
      → gave old page (Ok (slice_index_or (stored old) page (formatted page))) new)
  pub failed : IfErr result (λ why. IsByStore why → (fault : StoreFault)
      × gave old page (Err fault) new)
  pub refused : IfErr result (λ why. ¬ IsByStore why → new ≡ old)
  pub no_failure : OnOk result (failures new ≡ failures old)
  pub cause : IfErr result (λ why. IsByStore why → failures old < failures new)
