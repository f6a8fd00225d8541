-- Why a database on two files is not opened again, and what the file of its log was asked for.
use Rattle.std.specs.Prelude.{ℕ, ◌≡◌, ◌+◌, ◌<◌, ◌⊎◌, List, length, Option, None, Some}
use Rattle.page_core.specs.FaultName.{fault_line}
use Rattle.page_core.specs.declared.fault_name.FaultName.TheVariants as name
use Rattle.page_core.specs.declared.page.Page.{Page}
use Rattle.log_records.specs.declared.limits.TheConstants.{MAX_RECORDS}
use Rattle.log_records.specs.Log.{log_bytes}
use Rattle.log_rules.specs.Transactions.{owed}
use Rattle.log_prefix.specs.Front.{FoundFront, IsFrontOf}
use Rattle.file_devices.specs.FileLog.{KeepFails, LogOnDisk, ResumeFails, Stores, Syncs}
use Rattle.file_devices.specs.FileStore.{FormatFails}
use Rattle.file_devices.specs.declared.calls.FileCall.{FileCall}
use Rattle.engine_restart.specs.Found.{FindsNone, line_of as line_of_found}
use Rattle.engine_restart.specs.LogFile.{IsReadWhole, LastsOnFile, WasReadAndKept}
use Rattle.engine_restart.specs.Restart.{FailsUndo, IsStopped, line_of}
use Rattle.engine_restart.specs.declared.fault.RestartFault.{RestartFault}
use Rattle.engine_restart.specs.declared.fault.RestartFault.TheVariants.{LogFault, LogFull}
use Rattle.engine_restart.specs.declared.log_file.TheConstants.{MAX_FILE_BYTES}
use Rattle.engine_restart.specs.declared.log_file_fault.FoundLogFault.{FoundLogFault}
use Rattle.engine_restart.specs.declared.log_file_fault.FoundLogFault.TheVariants as log
use Rattle.imgcopy_engine.specs.declared.reopen.ReopenFault.{ReopenFault}
use Rattle.imgcopy_engine.specs.declared.reopen.ReopenFault.TheVariants.{File, Found, OutOfMemory}
use Rattle.imgcopy_engine.specs.declared.reopen.ReopenFault.TheVariants.{Restart, TooLong}

-- why no log was found, as a reopening reports it
abbrev pub of_found : FoundLogFault → ReopenFault
of_found log.OutOfMemory = OutOfMemory
of_found (log.TooLong count) = TooLong count
of_found (log.File why) = File why
of_found (log.Found why file) = Found why file

-- a log was found in its file, which has so many bytes, and this is how the file is handed back: the
-- log could not be stored again as its first bytes; or it was, and what was open could not be taken
-- back. Then all of the log still lasts there; and where a call failed, the file was to store the
-- first of undo's records behind it, and to sync them, and was asked for nothing else
pub data IsHandedBack {D : Type 0} (len : ℕ) (why : RestartFault) (file : LogOnDisk D) : Type 0 where
  not_kept : (bytes : List ℕ) (found : FoundFront) (read : LogOnDisk D)
      → IsReadWhole len bytes read.calls → IsFrontOf bytes found → why ≡ LogFault
      → KeepFails read (log_bytes found.log) file → IsHandedBack len why file
  not_undone : (bytes : List ℕ) (found : FoundFront) (kept : LogOnDisk D)
      → WasReadAndKept len bytes (log_bytes found.log) kept.calls → IsFrontOf bytes found
      → IsStopped (λ it. it.failures) kept why file → LastsOnFile found.log file
      → (why ≡ LogFault → FailsUndo Stores Syncs found.log kept file)
      → (why ≡ LogFull → MAX_RECORDS < length found.log.records + owed found.log.records)
      → IsHandedBack len why file

-- the file of the log, which has so many bytes, did not give them all, or did not sync; or the
-- file of the volume could not be emptied, or not get its pages
abbrev pub IsFailedFile : ℕ → List FileCall → Type 0
IsFailedFile len calls = ((bytes : List ℕ) × (length bytes ≡ len) × ResumeFails bytes calls)
    ⊎ ((pages : List Page) × FormatFails pages calls)

-- why a database is not opened again whose log's file has so many bytes. Where that was read whole
-- it is handed back, but for lack of memory or a fault of the volume's file
abbrev pub IsNotReopened : ℕ → ReopenFault → Type 0
IsNotReopened len OutOfMemory = Unit {0}
IsNotReopened len (TooLong count) = (count ≡ len) × (MAX_FILE_BYTES < len)
IsNotReopened len (File calls) = IsFailedFile len calls
IsNotReopened len (Found why file) =
    (bytes : List ℕ) × IsReadWhole len bytes file.calls × FindsNone bytes why
IsNotReopened len (Restart why file) = IsHandedBack len why file

-- what is printed of it. What the system says of a file that failed is not known
abbrev pub text_of : ReopenFault → Option (List ℕ)
text_of OutOfMemory = Some (fault_line name.OutOfMemory)
text_of (TooLong count) = Some (fault_line name.TooLong)
text_of (File calls) = None
text_of (Found why file) = Some (line_of_found why)
text_of (Restart why file) = Some (line_of why)
