-- A log with its master record and its pages, before undo and after it.
use Rattle.std.specs.Prelude.{ℕ, ◌≡◌, ◌<◌, List, [], drop, length, map, slice_index}
use Rattle.std.specs.Prelude.{slice_index_or}
use Rattle.page_core.specs.declared.page.Page.{Page}
use Rattle.page_core.specs.declared.page.TheConstants.{SLOTS}
use Rattle.page_core.specs.Volume.{AreNumbered}
use Rattle.log_records.specs.declared.record.Record.{Record}
use Rattle.log_records.specs.Image.{image_from, redo_all}
use Rattle.log_records.specs.Log.{IsLog, Log, page_count}
use Rattle.log_rules.specs.Committed.{committed}
use Rattle.log_rules.specs.Linked.{IsLinked}
use Rattle.log_rules.specs.Table.{TxnEntry}
use Rattle.log_rules.specs.Transactions.{open_in}
use Rattle.log_store.specs.declared.master.Master.{Master}
use Rattle.loser_undo.specs.Losers.{AreLosersOf}
use Rattle.loser_undo.specs.Undo.{after_undo}

-- a log, its master record, and the pages of its volume, whatever redo has made of them
pub record Recovery : Type 0 where
  pub log : Log
  pub master : Master
  pub pages : List Page

-- the records that undo appends to a log
abbrev pub appended : Log → List Record
appended log = drop (length log.records) (after_undo log.records)

-- the log after undo, and the pages with the changes of the records that it has appended
abbrev pub undone : Recovery → Recovery
undone r = record r {
  log = record r.log { records = after_undo r.log.records };
  pages = map (λ page. image_from page (appended r.log)) r.pages;
}

-- the log is linked, and there are as many pages as it says, in order of their numbers
pub record IsRecovery (r : Recovery) : Type 0 where
  pub valid : IsLog r.log
  pub linked : IsLinked r.log.records
  pub count : length r.pages ≡ page_count r.log
  pub numbered : AreNumbered r.pages

-- with its open transactions
pub record IsRedone (r : Recovery) (losers : List TxnEntry) : Type 0 where
  pub is : IsRecovery r
  pub made : AreLosersOf r.log.records losers

-- no transaction is open
pub record IsUndone (r : Recovery) : Type 0 where
  pub is : IsRecovery r
  pub closed : open_in r.log.records ≡ []

-- the pages are those that the log makes
abbrev pub HasLogsPages : Recovery → Type 0
HasLogsPages r = r.pages ≡ redo_all r.log.records (page_count r.log)

-- each slot of each page has the number that the committed transactions of these records leave
abbrev pub HasCommitted : List Record → List Page → Type 0
HasCommitted rs pages = (page slot : ℕ) (d : Page) → page < length pages → slot < SLOTS
    → slice_index (slice_index_or pages page d).slots slot ≡ committed rs page slot
