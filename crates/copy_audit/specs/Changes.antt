-- The changes of a page that were kept of a log, whose records were not.
use Rattle.std.specs.Prelude.{ℕ, ◌≡◌, List, length}
use Rattle.log_records.specs.declared.record.Record.{Record}
use Rattle.log_records.specs.Log.{IsLog, Log}
use Rattle.loser_undo.specs.Kept.{Kept, kept_of}
use Rattle.page_redo.specs.Placed.{Placed, placed_in}
use Rattle.copy_audit.specs.Places.{on_page}

-- this was kept of the log
pub record IsKeptOf (log : Log) (kept : Kept) : Type 0 where
  pub valid : IsLog log
  pub same : kept ≡ kept_of log

-- these are the changes of a page in a log of these records, so many
pub record AreChangesOf (rs : List Record) (number count : ℕ) (changes : List Placed) : Type 0 where
  pub pages : ℕ
  pub valid : IsLog (record { pages = pages; records = rs })
  pub count_is : count ≡ length rs
  pub made : changes ≡ on_page (placed_in rs) number
