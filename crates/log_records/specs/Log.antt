-- A whole log, and its bytes.
use Rattle.std.specs.Prelude.{ℕ, ◌≡◌, ◌+◌, ◌-◌, ◌*◌, ◌/◌, ◌<◌, ◌≤◌, List, length, ◌++◌}
use Rattle.std.specs.Prelude.{[], ◌∷◌, ◌==◌, if◌then◌else◌, slice_index_or, take, replicate, codes, slice_range}
use Rattle.std.specs.List.{AllByRecursion, filter_map, flat_map}
use Rattle.std.specs.Int.{w32, to_le_bytes, from_le_bytes}
use Rattle.log_records.specs.declared.record.Record.{Record}
use Rattle.log_records.specs.declared.record.Record.TheVariants.{Begin, Update, Comp, Commit, Abort}
use Rattle.log_records.specs.declared.record.Record.TheVariants.{End, BeginChkpt, ChkptPages}
use Rattle.log_records.specs.declared.record.Record.TheVariants.{ChkptTxns, EndChkpt, Extend}
use Rattle.log_records.specs.DirtyPage.{entries_of}
use Rattle.page_core.specs.declared.numbers.TheConstants.{LSN_STEP}
use Rattle.page_core.specs.declared.page.TheConstants.{MAX_PAGES}
use Rattle.page_core.specs.PageCounts.{PageCounts}
use Rattle.page_core.specs.declared.format.Format.{Format}
use Rattle.page_core.specs.declared.format.Format.TheVariants.{First, Second}
use Rattle.page_core.specs.Format.{digit_of}
use Rattle.log_records.specs.declared.limits.TheConstants.{HEADER_BYTES, MAX_RECORDS}
use Rattle.log_records.specs.PageCount.{GivesMore, count_behind, given_by}
use Rattle.log_records.specs.Record.{IsRecord, own_lsn, record_bytes}
pub use Rattle.log_records.specs.Record.{IsPageCount}

-- the page count that the header gives, and the records, the oldest first
pub record Log : Type 0 where
  pub pages : ℕ
  pub records : List Record

-- the log with these records behind its own
abbrev pub with_next : Log → List Record → Log
with_next log rs = record log { records = log.records ++ rs }

-- how many pages the volume has
abbrev pub page_count : Log → ℕ
page_count log = count_behind log.pages log.records

-- and how many it had when the log had so many records
abbrev pub page_count_at : Log → ℕ → ℕ
page_count_at log count = count_behind log.pages (take count log.records)

-- the page count of the log below an LSN
abbrev pub page_count_below : Log → ℕ → ℕ
page_count_below log lsn = page_count_at log ((lsn - 1) / LSN_STEP)

-- the counts that the header and the records give
abbrev pub counts_of : Log → PageCounts
counts_of log = record { first = log.pages; given = filter_map given_by log.records }

-- where the record at an index stands: behind the header and the records before it, 64 bytes each
abbrev pub lsn_of : ℕ → ℕ
lsn_of i = LSN_STEP * (i + 1)

-- a record names no page past the page count
abbrev pub IsWithin : ℕ → Record → Type 0
IsWithin pages (Begin lsn txn) = Unit {0}
IsWithin pages (Update lsn txn prev page slot change) = page < pages
IsWithin pages (Comp lsn txn prev undo_next page slot change) = page < pages
IsWithin pages (Commit lsn txn prev) = Unit {0}
IsWithin pages (Abort lsn txn prev) = Unit {0}
IsWithin pages (End lsn txn prev) = Unit {0}
IsWithin pages (BeginChkpt lsn) = Unit {0}
IsWithin pages (ChkptPages lsn begin entries) =
    AllByRecursion (λ e. e.page < pages) (entries_of entries)
IsWithin pages (ChkptTxns lsn begin txn state last undo_next) = Unit {0}
IsWithin pages (EndChkpt lsn begin redo) = Unit {0}
IsWithin pages (Extend lsn count) = Unit {0}

-- and so do all of these
abbrev pub AreWithin : ℕ → List Record → Type 0
AreWithin pages rs = (i : ℕ) (d : Record) → i < length rs → IsWithin pages (slice_index_or rs i d)

-- a record of a log of so many pages that stands at this LSN
pub record StandsAt (pages at : ℕ) (r : Record) : Type 0 where
  pub lsn : own_lsn r ≡ at
  pub valid : IsRecord r
  pub within : IsWithin pages r

-- a log that has a spelling: each record stands at its place, and names no page past the page count
-- that the records before it leave; one that gives a page count gives a greater one
pub record IsLog (log : Log) : Type 0 where
  pub pages : IsPageCount log.pages
  pub count : length log.records ≤ MAX_RECORDS
  pub records : (i : ℕ) (d : Record) → i < length log.records
      → StandsAt (page_count_at log i) (lsn_of i) (slice_index_or log.records i d)
  pub grows : (i : ℕ) (d : Record) → i < length log.records
      → GivesMore (page_count_at log i) (slice_index_or log.records i d)

-- the format that the bytes of a log name
abbrev pub format_in : List ℕ → Format
format_in bytes = if slice_index_or bytes 7 0 == digit_of First then First else Second

-- the text in front of a log: AIMGLOG1 or AIMGLOG2
abbrev pub magic_of : Format → List ℕ
magic_of format = codes "AIMGLOG" ++ digit_of format ∷ []

-- the 64 bytes in front of the records, by the log's format and its page count
unfoldable pub header_in : Format → ℕ → List ℕ
header_in format pages = magic_of format ++ to_le_bytes w32 pages ++ replicate (HEADER_BYTES - 12) 0

-- those of a log that is written
abbrev pub header_bytes : ℕ → List ℕ
header_bytes pages = header_in Second pages

-- the page count that a header has
abbrev pub pages_in : List ℕ → ℕ
pages_in bytes = from_le_bytes w32 (slice_range bytes 8 12)

-- the bytes of a log in a format, and those of one that is written
abbrev pub bytes_in : Format → Log → List ℕ
bytes_in format log = header_in format log.pages ++ flat_map record_bytes log.records

abbrev pub log_bytes : Log → List ℕ
log_bytes log = bytes_in Second log

-- a record that a log of this format may have: one of the first format has no Extend
abbrev pub IsOfFormat : Format → Record → Type 0
IsOfFormat Second r = Unit {0}
IsOfFormat First (Begin lsn txn) = Unit {0}
IsOfFormat First (Update lsn txn prev page slot change) = Unit {0}
IsOfFormat First (Comp lsn txn prev undo_next page slot change) = Unit {0}
IsOfFormat First (Commit lsn txn prev) = Unit {0}
IsOfFormat First (Abort lsn txn prev) = Unit {0}
IsOfFormat First (End lsn txn prev) = Unit {0}
IsOfFormat First (BeginChkpt lsn) = Unit {0}
IsOfFormat First (ChkptPages lsn begin entries) = Unit {0}
IsOfFormat First (ChkptTxns lsn begin txn state last undo_next) = Unit {0}
IsOfFormat First (EndChkpt lsn begin redo) = Unit {0}
IsOfFormat First (Extend lsn pages) = ⊥

abbrev pub AreOfFormat : Format → List Record → Type 0
AreOfFormat format rs =
    (i : ℕ) (d : Record) → i < length rs → IsOfFormat format (slice_index_or rs i d)

-- the bytes are the spelling of the log in one of the formats
pub record SpellsLog (log : Log) (bytes : List ℕ) : Type 0 where
  pub valid : IsLog log
  pub format : Format
  pub of_format : AreOfFormat format log.records
  pub spelled : bytes ≡ bytes_in format log

-- the bytes begin with the header of a log of this format and of so many pages
pub record HasHeader (format : Format) (pages : ℕ) (bytes : List ℕ) : Type 0 where
  pub count : IsPageCount pages
  pub spelled : take HEADER_BYTES bytes ≡ header_in format pages
