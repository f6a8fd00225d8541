use Rattle.loser_undo.proofs.Valid.{undo_closes}
use Rattle.loser_undo.proofs.undo_laws.undo_leaves_none_open.Goals as goal

pub returns : goal.returns
returns c = undo_closes
