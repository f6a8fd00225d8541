-- The volume of a log, by its page count in the end.
use Rattle.std.specs.Prelude.{ℕ, ◌≡◌, List}
use Rattle.log_records.specs.declared.record.Record.{Record}
use Rattle.log_records.specs.Log.{IsLog, page_count}

-- these are the records of a log, whose volume has so many pages in the end
pub record AreOfVolume (pages : ℕ) (rs : List Record) : Type 0 where
  pub first : ℕ
  pub valid : IsLog (record { pages = first; records = rs })
  pub count : page_count (record { pages = first; records = rs }) ≡ pages
