-- Where the records of undo go.
use Rattle.std.specs.Prelude.{ℕ, ◌≡◌, ◌+◌, ◌≤◌, ◌++◌, List, length, map}
use Rattle.page_core.specs.declared.page.Page.{Page}
use Rattle.page_core.specs.Volume.{AreNumbered}
use Rattle.log_records.specs.declared.limits.TheConstants.{MAX_RECORDS}
use Rattle.log_records.specs.declared.record.Record.{Record}
use Rattle.log_records.specs.Image.{image_from}
use Rattle.log_records.specs.Log.{IsLog, Log, page_count}
use Rattle.log_rules.specs.Table.{TxnEntry}
use Rattle.log_rules.specs.Transactions.{owed}
use Rattle.loser_undo.specs.Losers.{AreLosersOf}
use Rattle.loser_undo.specs.UndoRecords.{HasYielded, UndoView}

-- these transactions are open at the end of a log with so many records, and there is room for all
-- records that undo may append
pub record MayBeUndone (log : Log) (losers : List TxnEntry) (count : ℕ) : Type 0 where
  pub valid : IsLog log
  pub made : AreLosersOf log.records losers
  pub count_is : count ≡ length log.records
  pub room : length log.records + owed log.records ≤ MAX_RECORDS

-- undo of a log has come to these records
abbrev pub HasComeTo : Log → List Record → Type 0
HasComeTo log behind = (undo : UndoView) × HasYielded log behind undo

-- the pages of the log's volume, whatever they were at the start, with the changes of these records
pub record HasRedone (log : Log) (start : List Page) (behind : List Record) (pages : List Page)
    : Type 0 where
  pub all : length start ≡ page_count log
  pub numbered : AreNumbered start
  pub made : pages ≡ map (λ page. image_from page behind) start

-- the records of the log and these, in memory that has room for all that undo may append
pub record HasAppended (log : Log) (behind records : List Record) (capacity : ℕ) : Type 0 where
  pub made : records ≡ log.records ++ behind
  pub fits : length log.records + owed log.records ≤ capacity
