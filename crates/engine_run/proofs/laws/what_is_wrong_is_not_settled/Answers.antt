use Rattle.engine_run.proofs.Told.{wrong_told}
use Rattle.engine_run.proofs.laws.what_is_wrong_is_not_settled.Goals as goal

pub returns : goal.returns
returns c = λ began e sessions works at wrong settled.
    wrong_told began e sessions works at wrong settled
