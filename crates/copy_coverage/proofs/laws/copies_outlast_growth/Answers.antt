use Rattle.copy_coverage.proofs.Growth.{copied_grown}
use Rattle.copy_coverage.proofs.laws.copies_outlast_growth.Goals as goal

pub returns : goal.returns
returns c = λ log f count stored copies valid enough are. copied_grown log f count stored copies valid enough are
