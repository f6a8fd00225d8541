use Rattle.engine_run.proofs.Told.{answered_once}
use Rattle.engine_run.proofs.laws.each_record_was_answered_once.Goals as goal

pub returns : goal.returns
returns c = λ began e sessions works settled i d from within is.
    answered_once began e sessions works settled i d from within is
