-- A device in memory of which one call fails.
use Rattle.std.specs.Prelude.{ℕ, ◌≡◌, ◌≢◌, ◌+◌, ◌-◌, ◌&&◌, nat_le, Bool, List, ◌++◌, length, take}
use Rattle.std.specs.Prelude.{if◌then◌else◌, Result, IsErr}
use Rattle.log_store.specs.declared.device.DeviceFault.{DeviceFault}
use Rattle.log_store.specs.MemDevice.{Memory, Stores, after_failure}

-- the call that fails is counted from the next one on as 1; at 0 none is to fail; a call that fails
-- late stores its bytes
pub record Faulty : Type 0 where
  pub memory : Memory
  pub calls_to_fault : ℕ
  pub is_late : Bool

-- the memory after the call that is to fail: nothing is stored, or late the bytes, if there is room
abbrev pub after_fault : Faulty → ℕ → List ℕ → Memory
after_fault old from next =
    if old.is_late && nat_le (from + length next) old.memory.room
    then after_failure (record old.memory { bytes = take from old.memory.bytes ++ next })
    else after_failure old.memory

-- what comes of a store: it fails where it is the call that is to, and else as one in memory does
pub record FaultyStores (old : Faulty) (from : ℕ) (next : List ℕ) (new : Faulty)
    (result : Result Unit DeviceFault) : Type 0 where
  pub counted : new.calls_to_fault ≡ old.calls_to_fault - 1
  pub fault : old.calls_to_fault ≡ 1 → IsErr result × (new.memory ≡ after_fault old from next)
  pub others : old.calls_to_fault ≢ 1 → Stores old.memory from next new.memory result
