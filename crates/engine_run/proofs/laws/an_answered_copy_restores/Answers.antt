use Rattle.engine_run.proofs.Told.{copies_told}
use Rattle.engine_run.proofs.laws.an_answered_copy_restores.Goals as goal

pub returns : goal.returns
returns c = λ began left sessions works kept retired settled is_kept.
    copies_told began left sessions works kept settled
    (λ id copy is. c.a_complete_copy_restores.ensures.restores left.log kept left.forced_end
    left.copies id copy retired.valid retired.copies is_kept is)
