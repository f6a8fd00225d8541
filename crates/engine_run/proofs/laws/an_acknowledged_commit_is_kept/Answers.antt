use Rattle.engine_run.proofs.Told.{commits_told}
use Rattle.engine_run.proofs.laws.an_acknowledged_commit_is_kept.Goals as goal

pub returns : goal.returns
returns c = λ began left sessions works kept settled is_kept.
    commits_told began left sessions works kept settled is_kept
