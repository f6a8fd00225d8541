-- A master record and its log, without copies.
use Rattle.std.specs.Prelude.{ℕ, ◌≡◌, List, [], Option}
use Rattle.page_core.specs.Input.{HasGivenAll}
use Rattle.log_records.specs.Log.{Log}
use Rattle.log_store.specs.declared.fault.LogReadFault.{LogReadFault}
use Rattle.log_store.specs.Fault.{GaveNoFault}
use Rattle.log_store.specs.declared.master.Master.{Master}
use Rattle.media_restore.specs.declared.files_fault.RestoreFault.{RestoreFault}
use Rattle.media_restore.specs.declared.files_fault.RestoreFault.TheVariants.{OutOfMemory}
use Rattle.media_restore.specs.Files.{IsOfLog, IsOfMaster, LogRefused, MasterRefused}
use Rattle.media_restore.specs.FilesFault.{of_log}
use Rattle.media_restore.specs.FilesStop.{FailsInMaster}

-- the bytes spell a linked log, and a master record that names a complete checkpoint of it
pub record IsRightMaster (log master : Option (List ℕ)) : Type 0 where
  pub read : Log
  pub named : Master
  pub of_log : IsOfLog log read
  pub of_master : IsOfMaster master read.records named

-- why they do not: for what is wrong with the log, then with the master record; or for lack of
-- memory
pub data RefusesMaster (log master : Option (List ℕ)) (fault : RestoreFault) : Type 0 where
  of_the_log : LogRefused log fault → RefusesMaster log master fault
  of_the_master : (read : Log) → IsOfLog log read → MasterRefused master read.records fault
      → RefusesMaster log master fault
  of_memory : fault ≡ OutOfMemory → RefusesMaster log master fault

-- where a check stopped: in the log, and then the master record was not read; or in that, behind a
-- log that was read to its end. What a reader gave before it failed holds no fault
pub data CheckStopsIn (log log_left master master_left : Option (List ℕ)) (no_master : Type 0)
    (fault : RestoreFault) : Type 0 where
  the_log : (why : LogReadFault) → fault ≡ of_log why → GaveNoFault [] log log_left why → no_master
      → CheckStopsIn log log_left master master_left no_master fault
  the_master : (read : Log) → IsOfLog log read → HasGivenAll log log_left
      → FailsInMaster master master_left fault
      → CheckStopsIn log log_left master master_left no_master fault
