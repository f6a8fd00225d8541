-- The file of a log, as it was read.
use Rattle.std.specs.Prelude.{ℕ, ◌≡◌, ◌<◌, List, [], ◌∷◌, ◌++◌, length, Option, None, Some}
use Rattle.page_core.specs.FaultName.{fault_line}
use Rattle.page_core.specs.declared.fault_name.FaultName.TheVariants as name
use Rattle.engine_rules.specs.EngineState.{EngineState}
use Rattle.file_devices.specs.Calls.{done}
use Rattle.file_devices.specs.FileLog.{LogOnDisk, ResumeFails, bytes_of}
use Rattle.file_devices.specs.declared.calls.FileCall.{FileCall}
use Rattle.file_devices.specs.declared.calls.Request.TheVariants.{Read, SetLen, Sync, Write}
use Rattle.log_prefix.specs.declared.cut.Cut.{Cut}
use Rattle.log_prefix.specs.Front.{IsFrontOf}
use Rattle.log_records.specs.Log.{Log, log_bytes}
use Rattle.engine_restart.specs.Found.{FindsNone, line_of}
use Rattle.engine_restart.specs.Lives.{GoesOnFrom}
use Rattle.engine_restart.specs.Restart.{HasLasting, undone_log}
use Rattle.engine_restart.specs.declared.log_file.TheConstants.{MAX_FILE_BYTES}
use Rattle.engine_restart.specs.declared.log_file_fault.FoundLogFault.{FoundLogFault}
use Rattle.engine_restart.specs.declared.log_file_fault.FoundLogFault.TheVariants.{File, Found}
use Rattle.engine_restart.specs.declared.log_file_fault.FoundLogFault.TheVariants.{OutOfMemory}
use Rattle.engine_restart.specs.declared.log_file_fault.FoundLogFault.TheVariants.{TooLong}

-- a file of so many bytes was asked for all of them, from its first one on, and gave these; then it
-- answered that they last; and it was asked for nothing else
pub record IsReadWhole (len : ℕ) (bytes : List ℕ) (file : List FileCall) : Type 0 where
  pub all : length bytes ≡ len
  pub calls : file ≡ done (Read 0 bytes) ∷ done Sync ∷ []

-- a file was asked to have this front as its first bytes, then to be cut behind it, and to sync; it
-- did all three, and was asked for nothing else
abbrev pub KeepsFront : List ℕ → List FileCall → List FileCall → Type 0
KeepsFront front old new =
    new ≡ old ++ done (Write 0 front) ∷ done (SetLen (length front)) ∷ done Sync ∷ []

-- by the calls that were made of it a file begins with this log, and all of it lasts there
abbrev pub LastsOnFile : {D : Type 0} → Log → LogOnDisk D → Type 0
LastsOnFile log file = HasLasting bytes_of (λ it. it.end) log file

-- why no log was found in a file of so many bytes: they are more than are read; or the file failed
-- to give them all or to sync; or it gave them, and they have none
abbrev pub HasNoLog : ℕ → FoundLogFault → Type 0
HasNoLog len OutOfMemory = Unit {0}
HasNoLog len (TooLong count) = (count ≡ len) × (MAX_FILE_BYTES < len)
HasNoLog len (File why) = (bytes : List ℕ) × (length bytes ≡ len) × ResumeFails bytes why
HasNoLog len (Found fault file) =
    (bytes : List ℕ) × IsReadWhole len bytes file.calls × FindsNone bytes fault

-- what is printed of it. What the system says of a file that failed is not known
abbrev pub text_of : FoundLogFault → Option (List ℕ)
text_of OutOfMemory = Some (fault_line name.OutOfMemory)
text_of (TooLong count) = Some (fault_line name.TooLong)
text_of (File why) = None
text_of (Found fault file) = Some (line_of fault)

-- so it was at first; then the file was asked to have this front of these bytes as its first ones,
-- to be cut behind it, and to sync. It did all of this before it was asked for anything else
pub record WasReadAndKept (len : ℕ) (bytes front : List ℕ) (file : List FileCall) : Type 0 where
  pub all : length bytes ≡ len
  pub later : List FileCall
  pub calls : file ≡ done (Read 0 bytes) ∷ done Sync ∷ done (Write 0 front)
      ∷ done (SetLen (length front)) ∷ done Sync ∷ later

-- an engine goes on from a file of so many bytes, all of which were read before all else: its log is
-- the longest front of these bytes, cut there, once what was open in it is taken back. That front was
-- stored again, alone, before anything was stored behind it
pub record GoesOnFromFile (len : ℕ) (cut : Option Cut) (file : List FileCall) (s : EngineState)
    : Type 0 where
  pub bytes : List ℕ
  pub log : Log
  pub read : WasReadAndKept len bytes (log_bytes log) file
  pub front : IsFrontOf bytes (record { log = log; cut = cut })
  pub goes_on : GoesOnFrom (undone_log log) s
