-- The calls of a device by which a log is forced.
use Rattle.std.specs.Prelude.{ℕ, ◌≡◌, ◌<◌, ◌-◌, ◌/◌, ◌⊎◌, List, [], ◌∷◌, Result, Ok, Err}
use Rattle.std.specs.Prelude.{slice_range}
use Rattle.page_core.specs.declared.numbers.TheConstants.{LSN_STEP}
use Rattle.log_records.specs.declared.record.Record.{Record}
use Rattle.log_records.specs.Log.{Log, header_bytes}
use Rattle.log_records.specs.Record.{own_lsn, record_bytes}
use Rattle.log_store.specs.declared.device.DeviceFault.{DeviceFault}
use Rattle.log_store.specs.WrittenLog.{HasRecordAt, WrittenLog}

-- what a device says of one call of `store`: the device before it, the offset, the bytes, what it
-- answered, and the device after it
abbrev pub StoreCall : Type 0 → Type 1
StoreCall D = D → ℕ → List ℕ → Result Unit DeviceFault → D → Type 0

-- what a device says of one call of `sync`: the device before it, what it answered, and the device
-- after it
abbrev pub SyncCall : Type 0 → Type 1
SyncCall D = D → Result Unit DeviceFault → D → Type 0

-- each of these records was stored at its LSN, in order, by one call for each, and no other call
-- was made
abbrev pub StoresEach : {D : Type 0} → StoreCall D → D → List Record → D → Type 0
StoresEach called old [] new = new ≡ old
StoresEach called old (r ∷ rest) new =
    (next : _) × called old (own_lsn r) (record_bytes r) (Ok tt) next
    × StoresEach called next rest new

-- the records that stand from one LSN up to another
abbrev pub records_between : List Record → ℕ → ℕ → List Record
records_between records from to = slice_range records (from / LSN_STEP - 1) (to / LSN_STEP - 1)

-- the records from the old forced end up to the new one were stored so, and that left this device
abbrev pub StoresForced : {D : Type 0} → StoreCall D → WrittenLog D → WrittenLog D → D → Type 0
StoresForced called old new device =
    StoresEach called old.device (records_between new.log.records old.forced_end new.forced_end)
    device

-- of a log: its records from one LSN up to another were stored so; then the call of the next one
-- failed, and no call was made after it
pub record FailsAtStore {D : Type 0} (called : StoreCall D) (log : Log) (from to : ℕ)
    (old failed : D) : Type 0 where
  pub before_fault : D
  pub stored : StoresEach called old (records_between log.records from to) before_fault
  pub next : Record
  pub there : HasRecordAt log to next
  pub why : DeviceFault
  pub fault : called before_fault (own_lsn next) (record_bytes next) (Err why) failed

abbrev pub FailsAtNext : {D : Type 0} → StoreCall D → WrittenLog D → WrittenLog D → Type 0
FailsAtNext called old new =
    FailsAtStore called new.log old.forced_end new.forced_end old.device new.device

-- one call was made, that of the first record that is not forced
abbrev pub IsNextCall : {D : Type 0} → StoreCall D → WrittenLog D → Result Unit DeviceFault → D
    → Type 0
IsNextCall called old result new =
    (r : Record) × HasRecordAt old.log old.forced_end r
    × called old.device (own_lsn r) (record_bytes r) result new

-- ---- a force: its stores, and then one sync

-- the records from one LSN up to another were stored so, and then one call synced them all; where
-- there are none, no call was made
pub data ForcesBetween {D : Type 0} (called : StoreCall D) (synced : SyncCall D)
    (records : List Record) (from to : ℕ) (old new : D) : Type 0 where
  nothing : to ≡ from → new ≡ old → ForcesBetween called synced records from to old new
  in_one_sync : (stored : D) → from < to
      → StoresEach called old (records_between records from to) stored
      → synced stored (Ok tt) new → ForcesBetween called synced records from to old new

-- a store failed; then one call synced what was stored before it, and none was made where that is
-- nothing
pub record SyncsStored {D : Type 0} (synced : SyncCall D) (from to : ℕ) (failed new : D)
    : Type 0 where
  pub none : to ≡ from → new ≡ failed
  pub some : from < to → synced failed (Ok tt) new

-- a force that failed: a store did, so that the records before it count as forced once they are
-- synced; or their sync did, so that no record more counts as forced, whatever was stored
pub data FailsBetween {D : Type 0} (called : StoreCall D) (synced : SyncCall D) (log : Log)
    (from to : ℕ) (old new : D) : Type 0 where
  at_a_store : (failed : D) → FailsAtStore called log from to old failed
      → SyncsStored synced from to failed new → FailsBetween called synced log from to old new
  at_the_sync : (end : ℕ) (reached : D) (why : DeviceFault) → from < end
      → StoresEach called old (records_between log.records from end) reached
      ⊎ FailsAtStore called log from end old reached
      → synced reached (Err why) new → to ≡ from → FailsBetween called synced log from to old new

-- the log was forced from the old forced end up to the new one
abbrev pub Forced : {D : Type 0} → StoreCall D → SyncCall D → WrittenLog D → WrittenLog D → Type 0
Forced called synced old new = ForcesBetween called synced new.log.records old.forced_end
    new.forced_end old.device new.device

-- it was forced so far, and then a call of the device failed
abbrev pub ForceFails : {D : Type 0} → StoreCall D → SyncCall D → WrittenLog D → WrittenLog D
    → Type 0
ForceFails called synced old new = FailsBetween called synced new.log old.forced_end new.forced_end
    old.device new.device

-- ---- the header

-- the header of a new log was stored by one call, and synced by one
pub record StoresHeader {D : Type 0} (called : StoreCall D) (synced : SyncCall D) (pages : ℕ)
    (device new : D) : Type 0 where
  pub stored : D
  pub store : called device 0 (header_bytes pages) (Ok tt) stored
  pub sync : synced stored (Ok tt) new

-- one of these two calls failed, and none was made after it
pub data HeaderFails {D : Type 0} (called : StoreCall D) (synced : SyncCall D) (pages : ℕ)
    (device left : D) : Type 0 where
  at_the_store : (why : DeviceFault) → called device 0 (header_bytes pages) (Err why) left
      → HeaderFails called synced pages device left
  at_the_sync : (stored : D) (why : DeviceFault)
      → called device 0 (header_bytes pages) (Ok tt) stored → synced stored (Err why) left → HeaderFails called synced pages device left
