use Rattle.log_store.proofs.OneFault.{one_first_fault}
use Rattle.log_store.proofs.laws.bytes_have_one_first_fault.Goals as goal

pub returns : goal.returns
returns c = one_first_fault
