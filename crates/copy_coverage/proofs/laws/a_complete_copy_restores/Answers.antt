use Rattle.copy_coverage.proofs.CompleteCopies.{complete_alone, restores_alone}
use Rattle.copy_coverage.proofs.laws.a_complete_copy_restores.Goals as goal

pub returns-clause-complete : goal.returns-clause-complete
returns-clause-complete c = λ log f copies id copy are is. complete_alone log f copies id copy are is

pub returns-clause-restores : goal.returns-clause-restores
returns-clause-restores c = λ log kept f copies id copy valid are crash is.
    restores_alone log kept f copies id copy valid are crash is
