use Rattle.copy_vault.proofs.OneFault.{one_fault}
use Rattle.copy_vault.proofs.archive_laws.bytes_have_one_fault.Goals as goal

pub returns : goal.returns
returns c = one_fault
