use Rattle.loser_undo.proofs.Valid.{undone_number, undone_page}
use Rattle.loser_undo.proofs.undo_laws.undo_leaves_what_is_committed.Goals as goal

pub returns : goal.returns
returns c = record { numbers = undone_number; pages = undone_page }
