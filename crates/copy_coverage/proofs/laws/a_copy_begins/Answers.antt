use Rattle.copy_coverage.proofs.Copied.{copied_opened}
use Rattle.copy_coverage.proofs.laws.a_copy_begins.Goals as goal

pub returns : goal.returns
returns c = λ log f stored copies kind begin redo valid are few noted early parent covers.
    copied_opened log f stored copies kind begin redo valid are few noted early parent covers
