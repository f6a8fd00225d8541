use Rattle.loser_undo.proofs.Committed.{committed_stays}
use Rattle.loser_undo.proofs.undo_laws.undo_commits_nothing.Goals as goal

pub returns : goal.returns
returns c = committed_stays
