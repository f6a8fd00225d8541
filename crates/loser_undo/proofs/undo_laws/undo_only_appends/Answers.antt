use Rattle.loser_undo.proofs.Valid.{log_comes_first}
use Rattle.loser_undo.proofs.undo_laws.undo_only_appends.Goals as goal

pub returns : goal.returns
returns c = log_comes_first
