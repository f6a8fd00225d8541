use Rattle.event_script.proofs.OneFault.{one_fault}
use Rattle.event_script.proofs.laws.inputs_have_one_fault.Goals as goal

pub returns : goal.returns
returns c = one_fault
