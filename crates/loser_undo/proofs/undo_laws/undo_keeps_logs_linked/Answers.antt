use Rattle.loser_undo.proofs.Valid.{undo_is_linked}
use Rattle.loser_undo.proofs.undo_laws.undo_keeps_logs_linked.Goals as goal

pub returns : goal.returns
returns c = undo_is_linked
