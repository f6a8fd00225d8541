use Rattle.copy_coverage.proofs.Copied.{copied_stored}
use Rattle.copy_coverage.proofs.laws.copies_outlast_page_writes.Goals as goal

pub returns : goal.returns
returns c = λ log f stored copies p image are there past newer.
    copied_stored log f stored copies p image are there past newer
