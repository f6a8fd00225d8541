use Rattle.copy_coverage.proofs.Chains.{restored_of_members}
use Rattle.copy_coverage.proofs.laws.a_chain_restores.Goals as goal

pub returns : goal.returns
returns c = λ log kept f copies id members p valid are crash chain of_id.
    restored_of_members log f copies kept id members p valid are crash chain of_id
