use Rattle.copy_coverage.proofs.Copied.{copied_decided}
use Rattle.copy_coverage.proofs.laws.a_copy_decides.Goals as goal

pub returns : goal.returns
returns c = λ log f stored copies id p copy page are is there lt same stable.
    copied_decided log f stored copies id p copy page are is there lt same stable
