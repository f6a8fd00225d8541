-- From the bytes of a log to the bytes of the volume that it makes.
use Rattle.std.specs.Prelude.{ℕ, ◌<◌, List, [], length, take, Option, IfSome}
use Rattle.std.specs.Io.KnownBytes.{Appends, Keeps}
use Rattle.page_core.specs.Volume.{SpellsVolume}
use Rattle.page_core.specs.FaultName.{fault_line, fault_line_with}
use Rattle.page_core.specs.declared.fault_name.FaultName.TheVariants as name
use Rattle.log_store.specs.declared.fault.LogReadFault.{LogReadFault}
use Rattle.log_store.specs.declared.fault.LogReadFault.TheVariants as log
use Rattle.log_rules.specs.Linked.{IsLinked}
use Rattle.log_records.specs.Log.{Log, IsLog, SpellsLog, page_count}
use Rattle.log_records.specs.Image.{redo_all}
use Rattle.log_store.specs.Fault.{Refuses, GaveNoFault}
use Rattle.page_redo.specs.declared.stream_fault.StreamFault.{StreamFault}
use Rattle.page_redo.specs.declared.stream_fault.StreamFault.TheVariants as fault

-- the bytes spell the volume that a log makes
abbrev pub SpellsVolumeOf : Log → List ℕ → Type 0
SpellsVolumeOf whole bytes = SpellsVolume (redo_all whole.records (page_count whole)) bytes

-- the input spells a linked log, and the volume that it makes was written, and nothing else
pub record WritesVolume (input old new : Option (List ℕ)) : Type 0 where
  pub made_of : Log
  pub valid : IsLog made_of
  pub linked : IsLinked made_of.records
  pub read : IfSome input (SpellsLog made_of)
  pub volume : List ℕ
  pub spells : SpellsVolumeOf made_of volume
  pub written : Appends old new volume

-- the input spells a linked log, and the first bytes of its volume were written, so many but not
-- all, and nothing else
pub record WritesPart (input old new : Option (List ℕ)) (done : ℕ) : Type 0 where
  pub made_of : Log
  pub valid : IsLog made_of
  pub linked : IsLinked made_of.records
  pub read : IfSome input (SpellsLog made_of)
  pub volume : List ℕ
  pub spells : SpellsVolumeOf made_of volume
  pub within : done < length volume
  pub written : Appends old new (take done volume)

-- nothing was written, and the fault is that of reading the log
pub record WritesNone (input old new : Option (List ℕ)) (why : LogReadFault) : Type 0 where
  pub refused : IfSome input (λ bytes. Refuses bytes why)
  pub kept : Keeps old new

-- the reader failed, and what it gave until then holds no fault
abbrev pub FailedUnread : Option (List ℕ) → Option (List ℕ) → Type 0
FailedUnread old new = GaveNoFault [] old new log.ReadFault

-- a fault of reading a log, as the program reports it
abbrev pub reported : LogReadFault → StreamFault
reported log.OutOfMemory = fault.OutOfMemory
reported log.BadHeader = fault.BadHeader
reported (log.BadRecord at) = fault.BadRecord at
reported (log.BadChain at) = fault.BadChain at
reported (log.Torn at) = fault.Torn at
reported log.ReadFault = fault.ReadFault
reported log.TooLong = fault.TooLong

-- what is printed of a fault
abbrev pub line_of : StreamFault → List ℕ
line_of fault.OutOfMemory = fault_line name.OutOfMemory
line_of (fault.WriteFault done) = fault_line_with name.WriteFault done
line_of fault.BadHeader = fault_line name.BadHeader
line_of (fault.BadRecord at) = fault_line_with name.BadRecord at
line_of (fault.Torn at) = fault_line_with name.Torn at
line_of fault.ReadFault = fault_line name.ReadFault
line_of fault.TooLong = fault_line name.TooLong
line_of (fault.BadChain at) = fault_line_with name.BadChain at

-- what a fault says, and what stands after it
abbrev pub Leaves : Option (List ℕ) → Option (List ℕ) → Option (List ℕ) → StreamFault → Type 0
Leaves input old new fault.OutOfMemory = Keeps old new
Leaves input old new (fault.WriteFault done) = WritesPart input old new done
Leaves input old new fault.BadHeader = WritesNone input old new log.BadHeader
Leaves input old new (fault.BadRecord at) = WritesNone input old new (log.BadRecord at)
Leaves input old new (fault.BadChain at) = WritesNone input old new (log.BadChain at)
Leaves input old new (fault.Torn at) = WritesNone input old new (log.Torn at)
Leaves input old new fault.ReadFault = WritesNone input old new log.ReadFault
Leaves input old new fault.TooLong = WritesNone input old new log.TooLong
