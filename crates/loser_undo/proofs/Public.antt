-- The laws of this crate that proofs of the crates above it cite. Its other lemmas are its own.

-- How many records undo may still append.
pub use Rattle.loser_undo.proofs.Appends.{owed_few}
-- The pages of a log after undo.
pub use Rattle.loser_undo.proofs.Pages.{log_and_appended, undone_committed, undone_count}
pub use Rattle.loser_undo.proofs.Pages.{undone_whole}
-- Undo of a log begins with the pages as they are.
pub use Rattle.loser_undo.proofs.Undoing.{nothing_redone}
-- The log after undo: its changes are valid, it fits where records plus owed ones do, and it begins with the log.
pub use Rattle.loser_undo.proofs.Valid.{undo_closes, undo_is_linked, undone_fits, undone_number}
-- Redo from a redo point on leaves a log with its master record and its pages what it is.
pub use Rattle.loser_undo.proofs.Resumed.{numbered_resumed}
-- What the table of losers says of its log.
pub use Rattle.loser_undo.proofs.Held.{owed_of}
