use Rattle.engine_rules.proofs.Commits.{commits_are_forced, commits_are_kept}
use Rattle.engine_rules.proofs.laws.answered_commits_are_kept.Goals as goal

pub returns : goal.returns
returns c = record { forced = commits_are_forced; kept = commits_are_kept }
