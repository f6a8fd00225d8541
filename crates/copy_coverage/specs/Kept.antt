-- The logs that a crash may leave.
use Rattle.std.specs.Prelude.{ℕ, ◌≡◌, ◌≤◌, length, take}
use Rattle.log_records.specs.Log.{Log, lsn_of}

-- the first records of a log, and all that are forced among them
pub record IsKeptOf (log : Log) (forced_end : ℕ) (kept : Log) : Type 0 where
  pub count : ℕ
  pub within : count ≤ length log.records
  pub forced : forced_end ≤ lsn_of count
  pub made : kept ≡ record log { records = take count log.records }
