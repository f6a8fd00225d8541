-- A device in memory.
use Rattle.std.specs.Prelude.{ℕ, ◌≡◌, ◌+◌, ◌≤◌, ◌↔◌, List, [], ◌++◌, length, take}
use Rattle.std.specs.Prelude.{Result, IsOk, OnOk, OnErr}
use Rattle.log_store.specs.declared.device.DeviceFault.{DeviceFault}

-- what is on it, how many bytes it has room for, and how often it has failed
pub record Memory : Type 0 where
  pub bytes : List ℕ
  pub room : ℕ
  pub failures : ℕ

-- a new device with so much room
abbrev pub empty_memory : ℕ → Memory
empty_memory room = record { bytes = []; room = room; failures = 0 }

-- the device after a call more, which failed
abbrev pub after_failure : Memory → Memory
after_failure old = record old { failures = old.failures + 1 }

-- what comes of a store: it fails just where it would pass the room
pub record Stores (old : Memory) (from : ℕ) (next : List ℕ) (new : Memory)
    (result : Result Unit DeviceFault) : Type 0 where
  pub fits : IsOk result ↔ (from + length next ≤ old.room)
  pub ok : OnOk result (new ≡ record old {
    bytes = take from old.bytes ++ next;
  })
  pub err : OnErr result (new ≡ after_failure old)
