use Rattle.engine_rules.proofs.Commits.{forced_later, stays_forced, stays_kept}
use Rattle.engine_rules.proofs.laws.later_commits_are_kept.Goals as goal

pub returns : goal.returns
returns c = record { forced = forced_later; older = stays_forced; kept = stays_kept }
