use Rattle.copy_vault.proofs.ArchiveReads.{only_read}
use Rattle.copy_vault.proofs.read.read_archive.Goals as goal

pub returns-clause-only : goal.returns-clause-only
returns-clause-only g c = λ copy input e spells.
    only_read c.read_copy.result _ copy input e spells c.read_copy.ensures.found c.read_copy.ensures.first
