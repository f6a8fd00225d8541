-- A log up to one of its records: what its bytes are, what stands for its master record, and what is
-- made of it.
use Rattle.std.specs.Prelude.{ℕ, ◌≡◌, ◌+◌, ◌⊎◌, List, [], take, Option, Some, IfSome, IsSomeAnd}
use Rattle.std.specs.Io.KnownBytes.{Keeps}
use Rattle.std.specs.Option.{option_map}
use Rattle.page_core.specs.FaultName.{fault_line, fault_line_with}
use Rattle.page_core.specs.declared.fault_name.FaultName.TheVariants as name
use Rattle.log_records.specs.declared.limits.TheConstants.{RECORD_BYTES}
use Rattle.log_records.specs.Log.{Log}
use Rattle.log_records.specs.Record.{own_lsn}
use Rattle.log_rules.specs.Checkpoint.{completed_in}
use Rattle.log_rules.specs.Transactions.{last_of}
use Rattle.log_store.specs.declared.master.Master.{Master}
use Rattle.log_store.specs.Fault as log
use Rattle.page_redo.specs.Stream.{WritesPart, WritesVolume}
use Rattle.media_restore.specs.declared.until_fault.UntilFault.{UntilFault}
use Rattle.media_restore.specs.declared.until_fault.UntilFault.TheVariants.{NoCheckpoint, NoRecord}
use Rattle.media_restore.specs.declared.until_fault.UntilFault.TheVariants.{OfLog, WriteFault}
use Rattle.copy_audit.specs.Audit.{IsOfLog}

-- ---- the log that ends there

-- of the bytes of a log those up to the end of the record at an LSN
abbrev pub bytes_until : ℕ → Option (List ℕ) → Option (List ℕ)
bytes_until lsn input = option_map (take (lsn + RECORD_BYTES)) input

-- the last record of a log is at this LSN
abbrev pub EndsWith : ℕ → Log → Type 0
EndsWith lsn log = IsSomeAnd (last_of log.records) (λ r. own_lsn r ≡ lsn)

-- the bytes up to the end of the record at an LSN spell this linked log, whose last record it is
pub record IsLogUntil (input : Option (List ℕ)) (lsn : ℕ) (log : Log) : Type 0 where
  pub of_log : IsOfLog (bytes_until lsn input) log
  pub last : EndsWith lsn log

-- its last complete checkpoint, as a master record names it
abbrev pub last_checkpoint : Log → Option Master
last_checkpoint log = option_map (λ point. record { begin = point.begin; end = point.end })
    (last_of (completed_in log.records))

-- ---- what is made of it

-- the volume that it makes was written, and nothing else
pub record WritesUntil (input : Option (List ℕ)) (lsn : ℕ) (old new : Option (List ℕ))
    : Type 0 where
  pub writes : WritesVolume (bytes_until lsn input) old new
  pub last : EndsWith lsn writes.made_of

-- the first bytes of it, so many but not all, and nothing else
pub record WritesPartUntil (input : Option (List ℕ)) (lsn : ℕ) (old new : Option (List ℕ))
    (done : ℕ) : Type 0 where
  pub writes : WritesPart (bytes_until lsn input) old new done
  pub last : EndsWith lsn writes.made_of

-- ---- why it is refused

-- no log ends there, or the bytes up to there are those of none; or memory ran out, or the reader
-- failed
abbrev pub RefusesUntil : Option (List ℕ) → ℕ → UntilFault → Type 0
RefusesUntil input lsn (NoRecord at) = (at ≡ lsn) × IfSome input (λ bytes.
    (ended : Log) → ¬ IsLogUntil (Some bytes) lsn ended)
RefusesUntil input lsn NoCheckpoint = ⊥
RefusesUntil input lsn (OfLog why) =
    IfSome (bytes_until lsn input) (λ bytes. log.Refuses bytes why)
RefusesUntil input lsn (WriteFault done) = ⊥

-- where no record begins there, none may stand there, or the bytes up to its end spell a log that
-- ends with another one
abbrev pub EndsElsewhere : Option (List ℕ) → ℕ → UntilFault → Type 0
EndsElsewhere input lsn (NoRecord at) = (¬ log.IsPlace lsn)
    ⊎ ((found : Log) × IsOfLog (bytes_until lsn input) found × ¬ EndsWith lsn found)
EndsElsewhere input lsn other = Unit {0}

-- or no checkpoint is complete in it
abbrev pub RefusesCheckpoint : Option (List ℕ) → ℕ → UntilFault → Type 0
RefusesCheckpoint input lsn NoCheckpoint =
    (ended : Log) × IsLogUntil input lsn ended × (completed_in ended.records ≡ [])
RefusesCheckpoint input lsn other = RefusesUntil input lsn other

-- what a fault says where its volume is to be written, and what stands after it
abbrev pub LeavesUntil : Option (List ℕ) → ℕ → Option (List ℕ) → Option (List ℕ) → UntilFault
    → Type 0
LeavesUntil input lsn old new (WriteFault done) = WritesPartUntil input lsn old new done
LeavesUntil input lsn old new other = Keeps old new × RefusesUntil input lsn other

-- what is printed of a fault
abbrev pub line_of : UntilFault → List ℕ
line_of (NoRecord at) = fault_line_with name.BadRecord at
line_of NoCheckpoint = fault_line name.NoMaster
line_of (OfLog why) = log.line_of why
line_of (WriteFault done) = fault_line_with name.WriteFault done
