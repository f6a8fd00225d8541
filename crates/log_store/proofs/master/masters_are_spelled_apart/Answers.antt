use Rattle.log_store.proofs.Masters.{same_master}
use Rattle.log_store.proofs.master.masters_are_spelled_apart.Goals as goal

pub returns : goal.returns
returns c = same_master
