-- The page count of a volume, as its log goes on.
use Rattle.std.specs.Prelude.{ℕ, ◌<◌, max, List, Option, None, Some, IfSome}
use Rattle.std.specs.List.{fold}
use Rattle.std.specs.Option.{option_map, option_map_or}
use Rattle.page_core.specs.declared.page_counts.GivenCount.{GivenCount}
use Rattle.log_records.specs.declared.record.Record.{Record}
use Rattle.log_records.specs.declared.record.Record.TheVariants.{Begin, Update, Comp, Commit, Abort}
use Rattle.log_records.specs.declared.record.Record.TheVariants.{End, BeginChkpt, ChkptPages}
use Rattle.log_records.specs.declared.record.Record.TheVariants.{ChkptTxns, EndChkpt, Extend}
use Rattle.log_records.specs.Record.{own_lsn}

-- the page count that a record gives to the volume, if it gives one
abbrev pub given_count : Record → Option ℕ
given_count (Begin lsn txn) = None
given_count (Update lsn txn prev page slot change) = None
given_count (Comp lsn txn prev undo_next page slot change) = None
given_count (Commit lsn txn prev) = None
given_count (Abort lsn txn prev) = None
given_count (End lsn txn prev) = None
given_count (BeginChkpt lsn) = None
given_count (ChkptPages lsn begin pages) = None
given_count (ChkptTxns lsn begin txn state last undo_next) = None
given_count (EndChkpt lsn begin redo) = None
given_count (Extend lsn pages) = Some pages

-- the page count behind a record: a volume never gets smaller
abbrev pub count_after : ℕ → Record → ℕ
count_after count r = option_map_or (max count) (given_count r) count

-- that count with the record's LSN
abbrev pub given_by : Record → Option GivenCount
given_by r = option_map (λ count. record { lsn = own_lsn r; pages = count }) (given_count r)

-- the page count behind these records, of a volume that had so many pages before them
unfoldable pub count_behind : ℕ → List Record → ℕ
count_behind count rs = fold count_after count rs

-- a record that gives a page count gives a greater one than there was
abbrev pub GivesMore : ℕ → Record → Type 0
GivesMore count r = IfSome (given_count r) (λ given. count < given)
