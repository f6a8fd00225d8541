use Rattle.engine_run.proofs.Told.{changes_told}
use Rattle.engine_run.proofs.laws.changes_add_up_to_updates.Goals as goal

pub returns : goal.returns
returns c = λ began e sessions works settled. changes_told began e sessions works settled
