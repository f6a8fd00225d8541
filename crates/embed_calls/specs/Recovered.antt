-- What a recovery from a log alone answers, and what it leaves.
use Rattle.std.specs.Prelude.{ℕ, ◌≡◌, ◌*◌, ◌+◌, ◌<◌, ◌≤◌, ◌⊎◌, List, drop, length, take}
use Rattle.std.specs.List.{flat_map}
use Rattle.page_core.specs.declared.page.Page.{Page}
use Rattle.page_core.specs.declared.page.TheConstants.{PAGE_BYTES}
use Rattle.page_core.specs.Page.{volume_bytes}
use Rattle.log_records.specs.declared.limits.TheConstants.{MAX_RECORDS, RECORD_BYTES}
use Rattle.log_records.specs.declared.record.Record.{Record}
use Rattle.log_records.specs.Image.{redo_all}
use Rattle.log_records.specs.Log.{Log, page_count}
use Rattle.log_records.specs.Record.{record_bytes}
use Rattle.log_rules.specs.Table.{TxnEntry}
use Rattle.log_rules.specs.Transactions.{owed}
use Rattle.loser_undo.specs.Losers.{losers_of}
use Rattle.loser_undo.specs.Recovery.{HasCommitted, appended}
use Rattle.loser_undo.specs.Undo.{after_undo}
use Rattle.embed_calls.specs.declared.outcome.Outcome.{Outcome}
use Rattle.embed_calls.specs.declared.outcome.TheConstants.{TOO_SHORT}
use Rattle.embed_calls.specs.Calls.{IsLogOf, IsNoLog}
use Rattle.embed_calls.specs.Outcome.{answers, numbered, numbered_twice}

-- the log's records, with those that its open transactions may still need
abbrev pub most_records : Log → ℕ
most_records log = length log.records + owed log.records

-- the front of a room is these bytes, and what lay behind them still does
pub record HasAtFront (bytes old new : List ℕ) : Type 0 where
  pub fits : length bytes ≤ length old
  pub front : take (length bytes) new ≡ bytes
  pub behind : drop (length bytes) new ≡ drop (length bytes) old

-- the bytes of pages stand at the front of one room, and those of records at the front of another
pub record IsPut (pages : List Page) (records : List Record) (volume made tail undo : List ℕ)
    : Type 0 where
  pub of_pages : HasAtFront (volume_bytes pages) volume made
  pub of_records : HasAtFront (flat_map record_bytes records) tail undo

-- the pages are those of the log after undo, and have what was committed
pub record AreRecovered (log : Log) (pages : List Page) : Type 0 where
  pub whole : pages ≡ redo_all (after_undo log.records) (page_count log)
  pub committed : HasCommitted log.records pages

-- how many bytes the volume needs, and how many the records of undo
abbrev pub of_volume : Log → ℕ
of_volume log = PAGE_BYTES * page_count log

abbrev pub of_tail : Log → ℕ
of_tail log = RECORD_BYTES * length (appended log)

-- the bytes spell a linked log, which has room for the records of undo; the volume that it makes after
-- undo is at the front of one room, and those records at the front of the other
pub record IsRecovered (bytes volume made tail undo : List ℕ) (it : Outcome) : Type 0 where
  pub log : Log
  pub of_log : IsLogOf bytes log
  pub room : most_records log ≤ MAX_RECORDS
  pub pages : List Page
  pub recovered : AreRecovered log pages
  pub put : IsPut pages (appended log) volume made tail undo
  pub counts : it ≡ answers (of_volume log) (of_tail log) 0

-- the bytes spell a linked log, and one of the rooms is too short for what it needs
pub record NeedsRoom (bytes : List ℕ) (volume tail : ℕ) (it : Outcome) : Type 0 where
  pub log : Log
  pub of_log : IsLogOf bytes log
  pub needs : it ≡ numbered_twice TOO_SHORT (of_volume log) (of_tail log)
  pub short : (volume < of_volume log) ⊎ (tail < of_tail log)

-- they are refused: no log, or one without room for the records of undo, or memory is refused
pub data IsNotRecovered (bytes : List ℕ) (it : Outcome) : Type 0 where
  no_log : IsNoLog bytes it → IsNotRecovered bytes it
  is_full : (log : Log) → IsLogOf bytes log → it ≡ numbered 8 0 → MAX_RECORDS < most_records log
      → IsNotRecovered bytes it
  no_memory : it ≡ numbered 1 0 → IsNotRecovered bytes it

-- ---- on the way

-- the bytes spell this log, which has room for undo; these are open at its end, and these pages it
-- makes
pub record MayUndo (bytes : List ℕ) (log : Log) (losers : List TxnEntry) (pages : List Page)
    : Type 0 where
  pub of_log : IsLogOf bytes log
  pub still_open : losers ≡ losers_of log.records
  pub made : pages ≡ redo_all log.records (page_count log)
  pub room : most_records log ≤ MAX_RECORDS

-- the bytes spell this log; these are its records after undo, those of undo from a place on, and the
-- pages that they make
pub record IsUndoneLog (bytes : List ℕ) (log : Log) (records : List Record) (count : ℕ)
    (pages : List Page) : Type 0 where
  pub of_log : IsLogOf bytes log
  pub room : most_records log ≤ MAX_RECORDS
  pub records_are : records ≡ after_undo log.records
  pub count_is : count ≡ length log.records
  pub recovered : AreRecovered log pages
