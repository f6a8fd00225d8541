use Rattle.media_restore.proofs.OneMasterFault.{one_master_fault}
use Rattle.media_restore.proofs.master_laws.masters_have_one_fault.Goals as goal

pub returns : goal.returns
returns c = one_master_fault
