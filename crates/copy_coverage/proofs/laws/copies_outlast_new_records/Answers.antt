use Rattle.copy_coverage.proofs.Copied.{copied_forced, copied_later}
use Rattle.copy_coverage.proofs.laws.copies_outlast_new_records.Goals as goal

pub returns-clause-logged : goal.returns-clause-logged
returns-clause-logged c = λ log next f stored copies own high are.
    copied_later log next f stored copies own high are

pub returns-clause-forced : goal.returns-clause-forced
returns-clause-forced c = λ log low high stored copies le are. copied_forced log low high stored copies le are
