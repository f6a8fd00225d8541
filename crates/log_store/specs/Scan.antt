-- A log that is read a part at a time.
use Rattle.std.specs.Prelude.{ℕ, ◌≡◌, ◌+◌, ◌*◌, ◌≤◌, List, length, take, ◌++◌, Option, Some, None, IfSome}
use Rattle.std.specs.Io.KnownBytes.{Consumes, IsAtEnd}
use Rattle.log_rules.specs.History.{IsMadeOf, Made}
use Rattle.log_rules.specs.Linked.{IsLinked}
use Rattle.log_records.specs.Log.{IsLog, Log, SpellsLog, format_in}
use Rattle.log_records.specs.declared.limits.TheConstants.{RECORD_BYTES}
use Rattle.log_store.specs.Fault.{IsBehindLog, Refuses, offset_of}
use Rattle.log_store.specs.declared.fault.LogReadFault.{LogReadFault}
use Rattle.page_core.specs.declared.format.Format.{Format}
use Rattle.page_core.specs.declared.numbers.TheConstants.{LSN_STEP}

-- the sink holds what it makes of a linked log of this format and of so many records, which makes
-- this and has these bytes
pub record HasTaken {S : Type 0} (holds : S → Log → Type 0) (format : Format) (sink : S)
    (made : Made) (count : ℕ) (given : List ℕ) : Type 0 where
  pub log : Log
  pub held : holds sink log
  pub spells : SpellsLog log given
  pub linked : IsLinked log.records
  pub made_of : IsMadeOf log made
  pub count_is : length log.records ≡ count
  pub format_is : format_in given ≡ format

-- the sink holds what it makes of the linked log whose bytes these are, and which makes this
pub record HasAll {S : Type 0} (holds : S → Log → Type 0) (sink : S) (made : Made)
    (given : List ℕ) : Type 0 where
  pub log : Log
  pub held : holds sink log
  pub spells : SpellsLog log given
  pub linked : IsLinked log.records
  pub made_of : IsMadeOf log made

-- of the records in these bytes, which stand behind the first `count`, the sink took those before
-- the fault
pub record HasTakenBefore {S : Type 0} (holds : S → Log → Type 0) (format : Format) (sink : S)
    (made : Made) (count : ℕ) (given bytes : List ℕ) (fault : LogReadFault) : Type 0 where
  pub more : ℕ
  pub taken : HasTaken holds format sink made (count + more)
      (given ++ take (RECORD_BYTES * more) bytes)
  pub at : offset_of fault ≡ LSN_STEP * (count + more + 1)

-- a reader gave what stands before the fault, and some of what follows: the sink holds what it
-- makes of the linked log whose bytes are before the fault, and which makes this
pub record HasStopped {S : Type 0} (holds : S → Log → Type 0) (sink : S) (made : Made)
    (given : List ℕ) (old new : Option (List ℕ)) (fault : LogReadFault) : Type 0 where
  pub read : List ℕ
  pub behind : List ℕ
  pub consumed : Consumes old new (read ++ behind)
  pub all : HasAll holds sink made (given ++ read)
  pub at : length (given ++ read) ≡ offset_of fault

-- the bytes are the spelling of this log, or go wrong behind it
abbrev pub EndsAt : Log → Option LogReadFault → List ℕ → Type 0
EndsAt log None bytes = SpellsLog log bytes
EndsAt log (Some fault) bytes = SpellsLog log (take (offset_of fault) bytes) × Refuses bytes fault

-- of some input: the sink holds what it makes of a linked log, which makes this, and the input ends
-- with that log, or goes wrong behind it
pub record IsReadTo {S : Type 0} (holds : S → Log → Type 0) (sink : S) (made : Made)
    (fault : Option LogReadFault) (input : Option (List ℕ)) : Type 0 where
  pub log : Log
  pub held : holds sink log
  pub made_of : IsMadeOf log made
  pub linked : IsLinked log.records
  pub valid : IsLog log
  pub behind : IfSome fault IsBehindLog
  pub ends : IfSome input (EndsAt log fault)

-- a reader gave all that it had, or at least what stands before the fault
abbrev pub HasGivenTo : Option (List ℕ) → Option (List ℕ) → Option LogReadFault → Type 0
HasGivenTo old new None = IsAtEnd new
HasGivenTo old new (Some fault) =
    (given : List ℕ) × Consumes old new given × (offset_of fault ≤ length given)
