use Rattle.loser_undo.proofs.Seen.{Seen}
use Rattle.loser_undo.proofs.undo_records.UndoRecords.next_place.Given as goal

abbrev pub invariant-loop-place : goal.invariant-loop-place
invariant-loop-place l = Seen l.self.losers l.place l.best l.greatest
