use Rattle.std.proofs.Common.{◌≡◌, arith, length, subst}
use Rattle.loser_undo.specs.UndoRecords.{UndoView}
use Rattle.loser_undo.proofs.Seen.{all_seen}
use Rattle.loser_undo.proofs.undo_records.UndoRecords.next_place.Goals as goal

pub returns : goal.returns
returns c =
    let many = subst (λ (v : UndoView). c.count-place-end.result ≡ length v.losers) c.self.view_is
    c.count-place-end.ensures in
    all_seen c.args.self.now.losers c.loop-place.place c.loop-place.best c.loop-place.greatest c.loop-place.invariant
    (omega (arith, many, c.loop-place-test.false))
