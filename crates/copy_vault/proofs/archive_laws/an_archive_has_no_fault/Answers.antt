use Rattle.copy_vault.proofs.ArchiveReads.{no_fault}
use Rattle.copy_vault.proofs.archive_laws.an_archive_has_no_fault.Goals as goal

pub returns : goal.returns
returns c = no_fault
