-- What may be wrong with the bytes of a log, and which fault is the first.
use Rattle.std.specs.Prelude.{ℕ, ◌≡◌, ◌+◌, ◌%◌, ◌<◌, ◌≤◌, List, length, take, slice_range, ◌++◌}
use Rattle.std.specs.Prelude.{Option}
use Rattle.std.specs.Io.KnownBytes.{Consumes}
use Rattle.page_core.specs.FaultName.{fault_line, fault_line_with}
use Rattle.page_core.specs.declared.fault_name.FaultName.TheVariants as name
use Rattle.page_core.specs.declared.numbers.TheConstants.{LSN_STEP}
use Rattle.log_store.specs.declared.fault.LogReadFault.{LogReadFault}
use Rattle.log_store.specs.declared.fault.LogReadFault.TheVariants.{OutOfMemory, BadHeader}
use Rattle.log_store.specs.declared.fault.LogReadFault.TheVariants.{BadRecord, BadChain, Torn}
use Rattle.log_store.specs.declared.fault.LogReadFault.TheVariants.{ReadFault, TooLong}
use Rattle.log_records.specs.declared.limits.TheConstants.{HEADER_BYTES, MAX_LOG_BYTES}
use Rattle.log_records.specs.declared.limits.TheConstants.{RECORD_BYTES}
use Rattle.log_records.specs.declared.record.Record.{Record}
use Rattle.log_records.specs.Record.{record_bytes}
use Rattle.log_rules.specs.Linked.{IsLinked, MayFollow}
use Rattle.page_core.specs.declared.format.Format.{Format}
use Rattle.log_records.specs.Log.{IsOfFormat, Log, SpellsLog, StandsAt, format_in, header_in}
use Rattle.log_records.specs.PageCount.{GivesMore}
use Rattle.log_records.specs.Record.{IsPageCount}
use Rattle.log_records.specs.Log.{page_count}

-- an offset at which a record may stand
pub record IsPlace (at : ℕ) : Type 0 where
  pub aligned : at % LSN_STEP ≡ 0
  pub past_header : HEADER_BYTES ≤ at
  pub in_longest : at < MAX_LOG_BYTES

-- these 64 bytes are the header of a log, in one of the formats
abbrev pub IsHeader : List ℕ → Type 0
IsHeader bytes =
    (format : Format) × (pages : ℕ) × IsPageCount pages × (bytes ≡ header_in format pages)

-- the 64 bytes at this offset are a record that may stand there, in a volume of so many pages: one
-- of the format that the bytes name
abbrev pub HasRecord : List ℕ → ℕ → ℕ → Type 0
HasRecord bytes at pages =
    (r : Record) × StandsAt pages at r × IsOfFormat (format_in bytes) r
    × (slice_range bytes at (at + RECORD_BYTES) ≡ record_bytes r)

-- the record may come behind this log: an Extend gives more pages than there are
abbrev pub MayComeBehind : Log → Record → Type 0
MayComeBehind log r = MayFollow log.records r × GivesMore (page_count log) r

-- the bytes before this offset spell a log, and the 64 bytes there are no record that may stand
-- behind it: none that names only pages of the volume as that log leaves it
pub record LacksRecord (bytes : List ℕ) (at : ℕ) : Type 0 where
  pub place : IsPlace at
  pub whole : at + RECORD_BYTES ≤ length bytes
  pub before : Log
  pub spells : SpellsLog before (take at bytes)
  pub lacks : ¬ HasRecord bytes at (page_count before)

-- the bytes before this offset spell a linked log, which the record there may not follow
pub record BreaksChain (bytes : List ℕ) (at : ℕ) : Type 0 where
  pub place : IsPlace at
  pub before : Log
  pub spells : SpellsLog before (take at bytes)
  pub linked : IsLinked before.records
  pub there : Record
  pub stands : StandsAt (page_count before) at there
  pub of_format : IsOfFormat (format_in bytes) there
  pub spelled : slice_range bytes at (at + RECORD_BYTES) ≡ record_bytes there
  pub breaks : ¬ MayComeBehind before there

-- the bytes have this fault
abbrev pub HasFault : List ℕ → LogReadFault → Type 0
HasFault bytes BadHeader = ¬ IsHeader (take HEADER_BYTES bytes)
HasFault bytes (BadRecord at) = LacksRecord bytes at
HasFault bytes (BadChain at) = BreaksChain bytes at
HasFault bytes (Torn at) = IsPlace at × (at < length bytes) × (length bytes < at + RECORD_BYTES)
HasFault bytes TooLong = MAX_LOG_BYTES < length bytes
HasFault bytes outside = ⊥

-- where a fault lies
abbrev pub offset_of : LogReadFault → ℕ
offset_of (BadRecord at) = at
offset_of (BadChain at) = at
offset_of (Torn at) = at
offset_of TooLong = MAX_LOG_BYTES
offset_of at_the_front = 0

-- the bytes have this fault, and none before it
pub record IsFirstFault (bytes : List ℕ) (fault : LogReadFault) : Type 0 where
  pub there : HasFault bytes fault
  pub first : (other : LogReadFault) → HasFault bytes other → offset_of fault ≤ offset_of other

-- the fault lies outside the bytes: memory ran out, or the reader failed
abbrev pub IsOutside : LogReadFault → Type 0
IsOutside OutOfMemory = Unit {0}
IsOutside ReadFault = Unit {0}
IsOutside of_the_bytes = ⊥

-- the fault lies behind a log: its bytes are right, and are followed by what is not
abbrev pub IsBehindLog : LogReadFault → Type 0
IsBehindLog OutOfMemory = ⊥
IsBehindLog BadHeader = ⊥
IsBehindLog ReadFault = ⊥
IsBehindLog behind = Unit {0}

-- any fault but the reader's
abbrev pub IsNoReadFault : LogReadFault → Type 0
IsNoReadFault ReadFault = ⊥
IsNoReadFault other = Unit {0}

-- the fault of these bytes is one of any input that begins with them: it does not come of where
-- they end
abbrev pub IsHeld : List ℕ → LogReadFault → Type 0
IsHeld given BadHeader = HEADER_BYTES ≤ length given
IsHeld given (Torn at) = ⊥
IsHeld given other = IsNoReadFault other

-- however these bytes go on, nothing in them is wrong yet
abbrev pub HoldsNoFault : List ℕ → Type 0
HoldsNoFault given = (fault : LogReadFault) → IsHeld given fault → ¬ HasFault given fault

-- what a refusal says of the input of a reader
abbrev pub Refuses : List ℕ → LogReadFault → Type 0
Refuses input OutOfMemory = Unit {0}
Refuses input ReadFault = Unit {0}
Refuses input of_the_bytes = IsFirstFault input of_the_bytes

-- where the reader failed, these bytes and what it gave hold no fault
abbrev pub GaveNoFault : List ℕ → Option (List ℕ) → Option (List ℕ) → LogReadFault → Type 0
GaveNoFault before old new ReadFault =
    (given : List ℕ) × (Consumes old new given × HoldsNoFault (before ++ given))
GaveNoFault before old new other = Unit {0}

-- what is printed of a fault
abbrev pub line_of : LogReadFault → List ℕ
line_of OutOfMemory = fault_line name.OutOfMemory
line_of BadHeader = fault_line name.BadHeader
line_of (BadRecord at) = fault_line_with name.BadRecord at
line_of (BadChain at) = fault_line_with name.BadChain at
line_of (Torn at) = fault_line_with name.Torn at
line_of ReadFault = fault_line name.ReadFault
line_of TooLong = fault_line name.TooLong
