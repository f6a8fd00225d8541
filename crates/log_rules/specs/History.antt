-- What the records of a log make: the tables of its open transactions and of its checkpoints, its
-- page counts, and its pages.
use Rattle.std.specs.Prelude.{ℕ, ◌≡◌, ◌++◌, [], ◌∷◌, List, length, map, slice_index, slice_index_or}
use Rattle.page_core.specs.declared.page.Page.{Page}
use Rattle.page_core.specs.Change.{Replaces}
use Rattle.page_core.specs.Page.{formatted}
use Rattle.page_core.specs.PageCounts.{PageCounts}
use Rattle.page_core.specs.Volume.{grown_to}
use Rattle.log_records.specs.PageCount.{GivesMore, given_by, given_count}
use Rattle.std.specs.Option.{option_map_or}
use Rattle.log_records.specs.declared.record.Record.{Record}
use Rattle.log_records.specs.declared.record.Record.TheVariants.{Begin, Update, Comp, Commit, Abort}
use Rattle.log_records.specs.declared.record.Record.TheVariants.{End, BeginChkpt, ChkptPages}
use Rattle.log_records.specs.declared.record.Record.TheVariants.{ChkptTxns, EndChkpt, Extend}
use Rattle.log_records.specs.Image.{redo_all, with_record}
use Rattle.log_records.specs.Log.{Log, counts_of, page_count}
use Rattle.log_rules.specs.CheckpointTable.{CheckpointTable, MayNoteCheckpoint}
use Rattle.log_rules.specs.CheckpointTable.{checkpoint_table_of, noted_checkpoint}
use Rattle.log_rules.specs.Table.{MayNote, Table, noted, table_of}

pub record Made : Type 0 where
  pub table : Table
  pub checkpoints : CheckpointTable
  pub counts : PageCounts
  pub pages : List Page

-- it is what this log makes
pub record IsMadeOf (log : Log) (made : Made) : Type 0 where
  pub table : made.table ≡ table_of log.records
  pub checkpoints : made.checkpoints ≡ checkpoint_table_of log.records
  pub counts : made.counts ≡ counts_of log
  pub pages : made.pages ≡ redo_all log.records (page_count log)

-- the number in a slot of these pages
abbrev pub number_on : List Page → ℕ → ℕ → ℕ
number_on pages page slot = slice_index (slice_index_or pages page (formatted page)).slots slot

-- an Update that replaces a number names the one that is there
abbrev pub NamesNumberOn : List Page → Record → Type 0
NamesNumberOn pages (Update lsn txn prev page slot change) =
    Replaces change (number_on pages page slot)
NamesNumberOn pages (Begin lsn txn) = Unit {0}
NamesNumberOn pages (Comp lsn txn prev undo_next page slot change) = Unit {0}
NamesNumberOn pages (Commit lsn txn prev) = Unit {0}
NamesNumberOn pages (Abort lsn txn prev) = Unit {0}
NamesNumberOn pages (End lsn txn prev) = Unit {0}
NamesNumberOn pages (BeginChkpt lsn) = Unit {0}
NamesNumberOn pages (ChkptPages lsn begin dirty) = Unit {0}
NamesNumberOn pages (ChkptTxns lsn begin txn state last undo) = Unit {0}
NamesNumberOn pages (EndChkpt lsn begin redo) = Unit {0}
NamesNumberOn pages (Extend lsn count) = Unit {0}

-- the record may come next, as far as the transactions, the checkpoints and the pages say
pub record MayComeNext (made : Made) (r : Record) : Type 0 where
  pub may_note : MayNote made.table r
  pub may_note_checkpoint : MayNoteCheckpoint made.table made.checkpoints r
  pub replaces : NamesNumberOn made.pages r
  pub more : GivesMore (length made.pages) r

-- the page counts after one more record
abbrev pub counts_after : PageCounts → Record → PageCounts
counts_after counts r =
    option_map_or (λ given. record counts { given = counts.given ++ given ∷ [] }) (given_by r)
    counts

-- the pages after one more record: its change is made on its page, and an Extend adds formatted
-- pages
abbrev pub pages_after : List Page → Record → List Page
pages_after pages r =
    option_map_or (λ count. grown_to count pages) (given_count r)
    (map (λ page. with_record page r) pages)

-- what stands after it
abbrev pub followed : Made → Record → Made
followed made r = record {
  table = noted made.table r;
  checkpoints = noted_checkpoint made.checkpoints r;
  counts = counts_after made.counts r;
  pages = pages_after made.pages r;
}
