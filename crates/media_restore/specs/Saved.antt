-- What an engine leaves, in files.
use Rattle.std.specs.Prelude.{ℕ, ◌≡◌, List, map, Some}
use Rattle.log_records.specs.Log.{Log, log_bytes}
use Rattle.log_store.specs.declared.master.Master.{Master}
use Rattle.log_store.specs.Master.{master_bytes}
use Rattle.copy_vault.specs.Archive.{archive_bytes}
use Rattle.copy_vault.specs.Chain.{IsChain}
use Rattle.copy_vault.specs.ChainOf.{IsChainOf}
use Rattle.copy_vault.specs.Copy.{CopyView}
use Rattle.copy_coverage.specs.Kept.{IsKeptOf}
use Rattle.copy_coverage.specs.Retired.{IsRetired, RetiredView}
use Rattle.media_restore.specs.Files.{Files}

-- the bytes of a log, of a master record, and of copies
abbrev pub files_of : Log → Master → List CopyView → Files
files_of log master copies = record {
  log = Some (log_bytes log);
  master = Some (master_bytes master);
  archives = map (λ copy. Some (archive_bytes copy)) copies;
}

-- what an engine leaves: a log that a crash may leave, the master record, and a chain of copies
pub record AreLeft (log : Log) (master : Master) (copies : List CopyView) : Type 0 where
  pub it : RetiredView
  pub id : ℕ
  pub retired : IsRetired it
  pub kept : IsKeptOf it.log it.forced_end log
  pub named : it.master ≡ Some master
  pub of_id : IsChainOf it.copies id copies
  pub chain : IsChain copies
