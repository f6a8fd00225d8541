use Rattle.engine_rules.proofs.Runs.{commit_is_forced}
use Rattle.engine_rules.proofs.laws.an_answered_commit_is_forced.Goals as goal

pub returns : goal.returns
returns c = commit_is_forced
