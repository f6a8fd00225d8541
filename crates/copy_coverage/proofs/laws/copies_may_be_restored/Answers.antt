use Rattle.copy_coverage.proofs.Copied.{restorable}
use Rattle.copy_coverage.proofs.laws.copies_may_be_restored.Goals as goal

pub returns : goal.returns
returns c = λ log f stored copies are. restorable log f stored copies are
