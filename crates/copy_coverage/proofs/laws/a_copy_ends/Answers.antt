use Rattle.copy_coverage.proofs.Copied.{copied_dropped, copied_sealed}
use Rattle.copy_coverage.proofs.laws.a_copy_ends.Goals as goal

pub returns-clause-sealed : goal.returns-clause-sealed
returns-clause-sealed c = λ log f stored copies id copy are is all.
    copied_sealed log f stored copies id copy are is all

pub returns-clause-dropped : goal.returns-clause-dropped
returns-clause-dropped c = λ log f stored copies id copy are is. copied_dropped log f stored copies id copy are is
