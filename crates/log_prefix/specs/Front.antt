-- The longest front of some bytes that is a linked log, and why it ends where it does.
use Rattle.std.specs.Prelude.{ℕ, ◌≡◌, ◌+◌, ◌<◌, ◌≤◌, ◌⊎◌, List, length, take, slice_range}
use Rattle.std.specs.Prelude.{Option, Some, None, IfSome}
use Rattle.std.specs.Io.KnownBytes.{Consumes, IsAtEnd}
use Rattle.page_core.specs.FaultName.{fault_line}
use Rattle.page_core.specs.declared.fault_name.FaultName.TheVariants as name
use Rattle.page_core.specs.declared.page.Page.{Page}
use Rattle.log_records.specs.declared.limits.TheConstants.{MAX_LOG_BYTES, MAX_RECORDS, RECORD_BYTES}
use Rattle.log_records.specs.declared.record.Record.{Record}
use Rattle.log_records.specs.Record.{record_bytes}
use Rattle.log_records.specs.Image.{redo_all}
use Rattle.log_records.specs.Log.{IsLog, IsOfFormat, Log, SpellsLog, StandsAt, format_in, lsn_of}
use Rattle.log_records.specs.Log.{page_count}
use Rattle.log_rules.specs.History.{IsMadeOf, Made}
use Rattle.log_rules.specs.Linked.{IsLinked}
use Rattle.log_rules.specs.Table.{TxnEntry, table_of}
use Rattle.log_store.specs.Analysis.{IsAnalysisOf}
use Rattle.log_store.specs.declared.analysis.Analysis.{Analysis}
use Rattle.log_store.specs.Fault.{MayComeBehind}
use Rattle.log_store.specs.declared.fault.LogReadFault.{LogReadFault}
use Rattle.log_store.specs.declared.fault.LogReadFault.TheVariants as whole
use Rattle.log_prefix.specs.declared.cut.Cut.{Cut}
use Rattle.log_prefix.specs.declared.cut.CutReason.{CutReason}
use Rattle.log_prefix.specs.declared.cut.CutReason.TheVariants.{Torn, BadRecord, BadChain, TooLong}
use Rattle.log_prefix.specs.declared.fault.FrontFault.{FrontFault}
use Rattle.log_prefix.specs.declared.fault.FrontFault.TheVariants.{OutOfMemory, BadHeader, ReadFault}

-- where a log ends in its bytes
abbrev pub end_of : Log → ℕ
end_of log = lsn_of (length log.records)

-- the log is linked, and the bytes begin with its spelling in one of the formats
pub record IsFront (bytes : List ℕ) (log : Log) : Type 0 where
  pub spells : SpellsLog log (take (end_of log) bytes)
  pub linked : IsLinked log.records

-- and no front of the bytes has more records
pub record IsLongestFront (bytes : List ℕ) (log : Log) : Type 0 where
  pub front : IsFront bytes log
  pub longest : (other : Log) → IsFront bytes other → length other.records ≤ length log.records

-- the 64 bytes behind this log are a record that may stand there, in its volume and its format
pub record StandsBehind (bytes : List ℕ) (log : Log) (r : Record) : Type 0 where
  pub stands : StandsAt (page_count log) (end_of log) r
  pub of_format : IsOfFormat (format_in bytes) r
  pub spelled : slice_range bytes (end_of log) (end_of log + RECORD_BYTES) ≡ record_bytes r

-- a log may have one record more
abbrev pub HasRoom : Log → Type 0
HasRoom log = length log.records < MAX_RECORDS

-- why the bytes behind a log are left out: they are less than a record, or no record, or one that
-- may not follow the log, or the log is full
abbrev pub IsLeftOut : List ℕ → Log → CutReason → Type 0
IsLeftOut bytes log Torn =
    HasRoom log × (end_of log < length bytes) × (length bytes < end_of log + RECORD_BYTES)
IsLeftOut bytes log BadRecord =
    HasRoom log × (end_of log + RECORD_BYTES ≤ length bytes)
    × ((r : Record) → ¬ StandsBehind bytes log r)
IsLeftOut bytes log BadChain =
    HasRoom log × ((r : Record) × StandsBehind bytes log r × ¬ MayComeBehind log r)
IsLeftOut bytes log TooLong = (length log.records ≡ MAX_RECORDS) × (end_of log < length bytes)

-- what a cut says of bytes that begin with a log: they are its spelling, or are left out from its
-- end on
abbrev pub IsCut : List ℕ → Log → Option Cut → Type 0
IsCut bytes log None = SpellsLog log bytes
IsCut bytes log (Some cut) = (cut.at ≡ end_of log) × IsLeftOut bytes log cut.why

-- a log, and where and why the bytes behind it are left out
pub record FoundFront : Type 0 where
  pub log : Log
  pub cut : Option Cut

-- it is what these bytes have as their front
pub record IsFrontOf (bytes : List ℕ) (found : FoundFront) : Type 0 where
  pub longest : IsLongestFront bytes found.log
  pub cut : IsCut bytes found.log found.cut

-- a linked log, and what reading it has answered
pub record IsRead (log : Log) (answered : Analysis) : Type 0 where
  pub linked : IsLinked log.records
  pub analysis : IsAnalysisOf log answered

-- a linked log leads to these pages, and to these open transactions with their pending changes
pub record LeadsTo (log : Log) (pages : List Page) (losers : List TxnEntry) : Type 0 where
  pub linked : IsLinked log.records
  pub redone : pages ≡ redo_all log.records (page_count log)
  pub still_open : losers ≡ (table_of log.records).entries

-- the bytes have no front at all
abbrev pub HasNoFront : List ℕ → Type 0
HasNoFront bytes = (log : Log) → ¬ IsFront bytes log

-- what a reader of whole logs says of bytes that are cut so
abbrev pub fault_of : ℕ → CutReason → LogReadFault
fault_of at Torn = whole.Torn at
fault_of at BadRecord = whole.BadRecord at
fault_of at BadChain = whole.BadChain at
fault_of at TooLong = whole.TooLong

-- and where it answers the same as a reader of fronts
abbrev pub same_fault : FrontFault → LogReadFault
same_fault OutOfMemory = whole.OutOfMemory
same_fault BadHeader = whole.BadHeader
same_fault ReadFault = whole.ReadFault

-- the fault lies outside the bytes: memory ran out, or the reader failed
abbrev pub IsOutside : FrontFault → Type 0
IsOutside OutOfMemory = Unit {0}
IsOutside ReadFault = Unit {0}
IsOutside BadHeader = ⊥

-- what is printed of a fault
abbrev pub line_of : FrontFault → List ℕ
line_of OutOfMemory = fault_line name.OutOfMemory
line_of BadHeader = fault_line name.BadHeader
line_of ReadFault = fault_line name.ReadFault

-- of some input: a sink and a history are what a log makes of them, and that log is the front
pub record HasFront {S : Type 0} (holds : S → Log → Type 0) (sink : S) (made : Made)
    (cut : Option Cut) (input : Option (List ℕ)) : Type 0 where
  pub log : Log
  pub held : holds sink log
  pub made_of : IsMadeOf log made
  pub linked : IsLinked log.records
  pub valid : IsLog log
  pub front : IfSome input (λ bytes. IsFrontOf bytes (record { log = log; cut = cut }))

-- a reader gave these bytes: all that it had, or more than the longest log has
abbrev pub GaveEnough : Option (List ℕ) → Option (List ℕ) → List ℕ → Type 0
GaveEnough old new given = Consumes old new given × (IsAtEnd new ⊎ MAX_LOG_BYTES < length given)

-- a reader was read to its end, or so far
abbrev pub IsReadUp : Option (List ℕ) → Option (List ℕ) → Type 0
IsReadUp old new = (given : List ℕ) × GaveEnough old new given
