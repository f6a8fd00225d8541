-- A volume that is restored from files: whether they allow it, and what is written.
use Rattle.std.specs.Prelude.{ℕ, ◌≡◌, ◌+◌, ◌<◌, ◌≤◌, List, length, map, take, Option, IfSome}
use Rattle.std.specs.Io.KnownBytes.{Appends, Keeps}
use Rattle.page_core.specs.declared.page.Page.{Page}
use Rattle.page_core.specs.Volume.{SpellsVolume}
use Rattle.log_records.specs.declared.limits.TheConstants.{MAX_RECORDS}
use Rattle.log_records.specs.declared.record.Record.{Record}
use Rattle.log_records.specs.Coverage.{resume}
use Rattle.log_records.specs.Image.{image_from, redo_all}
use Rattle.log_records.specs.Log.{Log, page_count}
use Rattle.log_rules.specs.Checkpoint.{IsCompleteCheckpoint}
use Rattle.log_rules.specs.Table.{TxnEntry}
use Rattle.log_rules.specs.Transactions.{owed}
use Rattle.log_store.specs.declared.fault.LogReadFault.{LogReadFault}
use Rattle.log_store.specs.declared.master.Master.{Master}
use Rattle.log_store.specs.Fault.{Refuses}
use Rattle.log_store.specs.Master.{SpellsMaster}
use Rattle.copy_vault.specs.Chain.{IsChain, contents, last_redo}
use Rattle.copy_vault.specs.Copy.{CopyView}
use Rattle.loser_undo.specs.Recovery.{HasCommitted, appended}
use Rattle.loser_undo.specs.Undo.{after_undo}
use Rattle.loser_undo.specs.UndoSink.{MayBeUndone}
use Rattle.media_restore.specs.declared.files_fault.RestoreFault.{RestoreFault}
use Rattle.media_restore.specs.declared.files_fault.RestoreFault.TheVariants.{OutOfMemory, LogFull}
use Rattle.media_restore.specs.declared.files_fault.RestoreFault.TheVariants.{BadHeader, BadChain}
use Rattle.media_restore.specs.declared.files_fault.RestoreFault.TheVariants.{ReadFault, WriteFault}
use Rattle.media_restore.specs.FilesArchives.{AreOfArchives, ArchivesRefused}
use Rattle.media_restore.specs.FilesFault.{of_log}
pub use Rattle.copy_audit.specs.Audit.{AreCovering, IsOfLog}

-- what the readers of a log, of a master record and of archives give, as far as it is known
pub record Files : Type 0 where
  pub log : Option (List ℕ)
  pub master : Option (List ℕ)
  pub archives : List (Option (List ℕ))

-- ---- what they spell

-- the master's bytes spell this master record, which names a complete checkpoint of these records
pub record IsOfMaster (input : Option (List ℕ)) (rs : List Record) (master : Master) : Type 0 where
  pub complete : IsCompleteCheckpoint rs master.begin master.end
  pub spelled : IfSome input (SpellsMaster master)

-- all of them: a log, a master record of it, and a chain of copies of its volume
pub record HasParts (files : Files) (log : Log) (master : Master) (copies : List CopyView)
    : Type 0 where
  pub of_log : IsOfLog files.log log
  pub of_master : IsOfMaster files.master log.records master
  pub of_archives : AreOfArchives files.archives log copies
  pub chain : IsChain copies

-- ---- what is made of it

-- the pages of the chain, with redo of the log from the redo point of its last copy on
abbrev pub redone_of : Log → List CopyView → List Page
redone_of log copies = map (λ page. resume page log.records (last_redo copies))
    (contents copies (page_count log))

-- and with the records on them that undo appends to the log
abbrev pub restored : Log → List CopyView → List Page
restored log copies = map (λ page. image_from page (appended log)) (redone_of log copies)

-- the files have all parts, and these are what undo goes on with: the losers of their log, which has
-- so many records and room for those of undo, and the pages of their chain with redo of the log
pub record IsRedoneFrom (files : Files) (log : Log) (losers : List TxnEntry) (count : ℕ)
    (pages : List Page) : Type 0 where
  pub master : Master
  pub copies : List CopyView
  pub parts : HasParts files log master copies
  pub to_undo : MayBeUndone log losers count
  pub made : pages ≡ redone_of log copies

-- the pages are those that the log makes with what undo appends to it, and have what was committed
pub record AreSound (log : Log) (pages : List Page) : Type 0 where
  pub whole : pages ≡ redo_all (after_undo log.records) (page_count log)
  pub committed : HasCommitted log.records pages

-- the log's records, with those that its open transactions may still need
abbrev pub most_records : Log → ℕ
most_records log = length log.records + owed log.records

-- these pages come of the files: of the chain by redo and undo. Where the chain covers its redo
-- point they are sound
pub record IsRestoredFrom (files : Files) (pages : List Page) : Type 0 where
  pub log : Log
  pub master : Master
  pub copies : List CopyView
  pub parts : HasParts files log master copies
  pub room : most_records log ≤ MAX_RECORDS
  pub made : pages ≡ restored log copies
  pub sound : AreCovering log copies → AreSound log pages

-- ---- why they are refused

-- the log's bytes are refused for this
pub record LogRefused (input : Option (List ℕ)) (fault : RestoreFault) : Type 0 where
  pub why : LogReadFault
  pub same : fault ≡ of_log why
  pub refused : IfSome input (λ bytes. Refuses bytes why)

-- the bytes spell no master record, or were not read to their end
abbrev pub NotSpelled : Option (List ℕ) → RestoreFault → Type 0
NotSpelled input BadHeader = IfSome input (λ bytes. (m : Master) → ¬ SpellsMaster m bytes)
NotSpelled input ReadFault = Unit {0}
NotSpelled input other = ⊥

-- so the bytes of a master record are refused behind these records, or where it names no complete
-- checkpoint of them
abbrev pub MasterRefused : Option (List ℕ) → List Record → RestoreFault → Type 0
MasterRefused input rs (BadChain begin) = (end : ℕ)
    × IfSome input (SpellsMaster (record { begin = begin; end = end }))
    × ¬ IsCompleteCheckpoint rs begin end
MasterRefused input rs other = NotSpelled input other

-- the files are refused: each fault only where all that comes before it is right
pub data Refused (files : Files) (fault : RestoreFault) : Type 0 where
  of_the_log : LogRefused files.log fault → Refused files fault
  of_the_master : (log : Log) → IsOfLog files.log log
      → MasterRefused files.master log.records fault → Refused files fault
  of_the_archives : (log : Log) (master : Master) → IsOfLog files.log log
      → IsOfMaster files.master log.records master
      → ArchivesRefused files.archives log fault → Refused files fault
  of_undo : (log : Log) (master : Master) (copies : List CopyView)
      → HasParts files log master copies → fault ≡ LogFull
      → MAX_RECORDS < most_records log → Refused files fault
  of_memory : fault ≡ OutOfMemory → Refused files fault

-- ---- what is written

-- the bytes of the volume that is restored from the files, and nothing else
pub record WritesVolume (files : Files) (old new : Option (List ℕ)) : Type 0 where
  pub pages : List Page
  pub from : IsRestoredFrom files pages
  pub volume : List ℕ
  pub spells : SpellsVolume pages volume
  pub written : Appends old new volume

-- the first bytes of it, so many but not all, and nothing else
pub record WritesPart (files : Files) (old new : Option (List ℕ)) (done : ℕ) : Type 0 where
  pub pages : List Page
  pub from : IsRestoredFrom files pages
  pub volume : List ℕ
  pub spells : SpellsVolume pages volume
  pub within : done < length volume
  pub written : Appends old new (take done volume)

-- what a fault says, and what stands after it
abbrev pub Leaves : Files → Option (List ℕ) → Option (List ℕ) → RestoreFault → Type 0
Leaves files old new (WriteFault done) = WritesPart files old new done
Leaves files old new fault = Keeps old new × Refused files fault
