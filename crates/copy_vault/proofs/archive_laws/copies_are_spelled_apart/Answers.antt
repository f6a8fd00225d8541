use Rattle.copy_vault.proofs.ArchiveReads.{same_copy}
use Rattle.copy_vault.proofs.archive_laws.copies_are_spelled_apart.Goals as goal

pub returns : goal.returns
returns c = same_copy
