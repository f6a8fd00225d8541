-- Archives that are read side by side, to a chain of copies.
use Rattle.std.specs.Prelude.{ℕ, ◌≡◌, List, Option}
use Rattle.log_records.specs.Log.{Log, counts_of}
use Rattle.copy_vault.specs.declared.chain_read_fault.ChainReadFault.{ChainReadFault}
use Rattle.copy_vault.specs.ChainReading.{AreNoChain}
use Rattle.media_restore.specs.declared.files_fault.RestoreFault.{RestoreFault}
use Rattle.media_restore.specs.FilesFault.{of_chain}
pub use Rattle.copy_audit.specs.Audit.{AreOfArchives, end_of}

-- the archives are refused, for the first fault that is met where they are read side by side
pub record ArchivesRefused (inputs : List (Option (List ℕ))) (log : Log) (fault : RestoreFault)
    : Type 0 where
  pub why : ChainReadFault
  pub same : fault ≡ of_chain why
  pub lefts : List (Option (List ℕ))
  pub refused : AreNoChain (counts_of log) (end_of log) inputs lefts why
