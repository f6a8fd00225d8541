use Rattle.loser_undo.proofs.Valid.{undone_fits, undone_length}
use Rattle.loser_undo.proofs.undo_laws.undo_fits_where_records_and_owed_ones_do.Goals as goal

pub returns : goal.returns
returns c = record { fits = undone_fits; count = undone_length }
