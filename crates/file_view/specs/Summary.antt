-- What a log comes to.
use Rattle.std.specs.Prelude.{ℕ, ◌≡◌, ◌+◌, ◌-◌, ◌*◌, ◌^◌, List, length, min}
use Rattle.log_records.specs.declared.record.Record.{Record}
use Rattle.log_rules.specs.Checkpoint.{completed_in}
use Rattle.log_rules.specs.Transactions.{last_of}
use Rattle.file_view.specs.declared.log_summary.LogSummary.{LogSummary}
use Rattle.file_view.specs.declared.summary.LogFacts.{LogFacts}

-- where a log ends, as far as a number of 64 bits goes
abbrev pub end_of : LogFacts → ℕ
end_of log = min (64 * log.summary.records + 64) (2 ^ 64 - 1)

-- how many records there are, and the last complete checkpoint of them
pub record IsSummaryOf (summary : LogSummary) (records : List Record) : Type 0 where
  pub count : summary.records ≡ length records
  pub point : summary.point ≡ last_of (completed_in records)
