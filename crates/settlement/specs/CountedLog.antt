-- The page count of a volume along its log.
use Rattle.std.specs.Prelude.{ℕ, ◌≡◌, ◌+◌, ◌<◌, List, length, slice_index_or}
use Rattle.log_records.specs.Log.{Log, page_count_at}

-- these are the page counts behind each record of the log
pub record AreBehind (log : Log) (counts : List ℕ) : Type 0 where
  pub each : length counts ≡ length log.records
  pub counted : (i : ℕ) → i < length log.records
      → slice_index_or counts i 0 ≡ page_count_at log (i + 1)
