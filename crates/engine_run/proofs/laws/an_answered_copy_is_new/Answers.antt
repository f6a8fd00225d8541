use Rattle.engine_run.proofs.Told.{new_told}
use Rattle.engine_run.proofs.laws.an_answered_copy_is_new.Goals as goal

pub returns : goal.returns
returns c = λ s began e sessions works was settled.
    new_told s began e sessions works was settled
