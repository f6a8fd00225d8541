-- How far a restore reads the files, and where it stops.
use Rattle.std.specs.Prelude.{ℕ, ◌≡◌, ◌<◌, ◌⊎◌, List, [], length, Option}
use Rattle.std.specs.Io.KnownBytes.{Consumes}
use Rattle.page_core.specs.Input.{HasGivenAll, StaysKnown}
use Rattle.log_records.specs.Log.{Log, counts_of}
use Rattle.log_store.specs.declared.fault.LogReadFault.{LogReadFault}
use Rattle.log_store.specs.declared.master.Master.{Master}
use Rattle.log_store.specs.declared.master.TheConstants.{MASTER_BYTES}
use Rattle.log_store.specs.Fault.{GaveNoFault}
use Rattle.log_store.specs.Master.{SpellsMaster}
use Rattle.copy_vault.specs.declared.chain_read_fault.ChainReadFault.{ChainReadFault}
use Rattle.copy_vault.specs.ChainReading.{AreNoChain, HaveGivenAll}
use Rattle.media_restore.specs.declared.files_fault.RestoreFault.{RestoreFault}
use Rattle.media_restore.specs.declared.files_fault.RestoreFault.TheVariants.{BadChain, BadHeader}
use Rattle.media_restore.specs.declared.files_fault.RestoreFault.TheVariants.{LogFull, OutOfMemory}
use Rattle.media_restore.specs.declared.files_fault.RestoreFault.TheVariants.{ReadFault, WriteFault}
use Rattle.media_restore.specs.Files.{Files, IsOfLog, IsOfMaster}
use Rattle.media_restore.specs.FilesArchives.{end_of}
use Rattle.media_restore.specs.FilesFault.{of_chain, of_log}

-- these bytes may still come to be a master record, or are one
abbrev pub MayBeMaster : List ℕ → Type 0
MayBeMaster given = (length given < MASTER_BYTES) ⊎ ((m : Master) × SpellsMaster m given)

-- the bytes of a master record, as far as they were given before its reader failed
abbrev pub FailsInMaster : Option (List ℕ) → Option (List ℕ) → RestoreFault → Type 0
FailsInMaster old new BadHeader = StaysKnown old new
FailsInMaster old new (BadChain begin) = HasGivenAll old new
FailsInMaster old new ReadFault = (given : List ℕ) × (Consumes old new given × MayBeMaster given)
FailsInMaster old new other = ⊥

-- all files were read to their ends
pub record AreReadWhole (old new : Files) : Type 0 where
  pub log : HasGivenAll old.log new.log
  pub master : HasGivenAll old.master new.master
  pub archives : HaveGivenAll old.archives new.archives

-- the fault is none of a file
abbrev pub IsBehindFiles : RestoreFault → Type 0
IsBehindFiles OutOfMemory = Unit {0}
IsBehindFiles LogFull = Unit {0}
IsBehindFiles (WriteFault done) = Unit {0}
IsBehindFiles of_a_file = ⊥

-- where a restore stopped: in a file, where those before it were read to their ends, and of those
-- behind it none was read; or behind all of them. What a reader gave before it failed holds no
-- fault
pub data StopsIn (old new : Files) (no_master no_archive : Type 0) (fault : RestoreFault)
    : Type 0 where
  the_log : (why : LogReadFault) → fault ≡ of_log why → GaveNoFault [] old.log new.log why
      → no_master → no_archive → StopsIn old new no_master no_archive fault
  the_master : (log : Log) → IsOfLog old.log log → HasGivenAll old.log new.log
      → FailsInMaster old.master new.master fault → no_archive
      → StopsIn old new no_master no_archive fault
  the_archives : (log : Log) (master : Master) → IsOfLog old.log log
      → HasGivenAll old.log new.log → IsOfMaster old.master log.records master
      → HasGivenAll old.master new.master → (why : ChainReadFault) → fault ≡ of_chain why
      → AreNoChain (counts_of log) (end_of log) old.archives new.archives why
      → StopsIn old new no_master no_archive fault
  behind_all : IsBehindFiles fault → AreReadWhole old new
      → StopsIn old new no_master no_archive fault
