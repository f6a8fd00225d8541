-- A log that is written: its records, and what of them its device has.
use Rattle.std.specs.Prelude.{ℕ, ◌≡◌, ◌/◌, ◌≤◌, List, length, take, min, slice_get, Some}
use Rattle.log_records.specs.declared.record.Record.{Record}
use Rattle.log_records.specs.Log.{Log, IsLog, SpellsLog, format_in, log_bytes, lsn_of}
use Rattle.page_core.specs.declared.numbers.TheConstants.{LSN_STEP}
use Rattle.page_core.specs.declared.format.Format.TheVariants.{Second}

-- the log, the LSN behind its last forced record, for how many records more it has memory, and its
-- device
pub record WrittenLog (D : Type 0) : Type 0 where
  pub log : Log
  pub forced_end : ℕ
  pub room : ℕ
  pub device : D

-- the log of so many pages with these records, of which so many are forced
abbrev pub written_log : {D : Type 0} → ℕ → List Record → ℕ → ℕ → D → WrittenLog D
written_log pages records forced room device = record {
  log = record { pages = pages; records = records };
  forced_end = lsn_of forced;
  room = room;
  device = device;
}

-- the log as it was when it had so many records
abbrev pub first_records : ℕ → Log → Log
first_records count log = record log { records = take count log.records }

-- so many records are forced: they end at the forced end, and up to there the device has the
-- spelling of the log as it was when it had just these, in the second format
pub record AreForced {D : Type 0} (bytes : D → List ℕ) (it : WrittenLog D) (count : ℕ)
    : Type 0 where
  pub there : count ≤ length it.log.records
  pub end : it.forced_end ≡ lsn_of count
  pub stable : SpellsLog (first_records count it.log) (take it.forced_end (bytes it.device))
  pub second : format_in (bytes it.device) ≡ Second

-- what a log that is written keeps
pub record IsWritten {D : Type 0} (bytes : D → List ℕ) (it : WrittenLog D) : Type 0 where
  pub valid : IsLog it.log
  pub forced : (count : ℕ) × AreForced bytes it count

-- a device begins with the spelling of a log, in the second format
abbrev pub HoldsLog : {D : Type 0} → (D → List ℕ) → Log → D → Type 0
HoldsLog bytes log device =
    take (lsn_of (length log.records)) (bytes device) ≡ log_bytes log

-- the log has this record at this LSN
pub record HasRecordAt (log : Log) (lsn : ℕ) (r : Record) : Type 0 where
  pub index : ℕ
  pub place : lsn ≡ lsn_of index
  pub there : slice_get log.records index ≡ Some r

-- the LSN behind the last record at or before an LSN
abbrev pub end_up_to : Log → ℕ → ℕ
end_up_to log lsn = lsn_of (min (lsn / LSN_STEP) (length log.records))

-- the forced end is that of a record, or of the header
abbrev pub EndsAtRecord : {D : Type 0} → WrittenLog D → Type 0
EndsAtRecord it = (k : ℕ) × (k ≤ length it.log.records) × (it.forced_end ≡ lsn_of k)
