use Rattle.std.proofs.Common.{◌++◌, ◌∷◌, [], arith, subst, sym}
use Rattle.loser_undo.specs.UndoRecords.{HasYielded, UndoView}
use Rattle.loser_undo.proofs.Undoing.{next_counted, nothing_yet}
use Rattle.loser_undo.proofs.undo_sink.undo_into.Goals as goal

pub loop-next-init : goal.loop-next-init
loop-next-init g c = λ log may took. (
  [],
  (
    subst (λ (u : UndoView). HasYielded log [] u) (sym c.new-undo.ensures)
        (nothing_yet log c.args.losers c.args.count may),
    took,
  ),
)

pub next_record-requires : goal.next_record-requires
next_record-requires g c =
    let is = c.loop-next.invariant c.requires.0 c.requires.1.0 c.requires.1.1 in
    (c.requires.0, (is.0, is.1.0))

pub take-requires : goal.take-requires
take-requires g c =
    let log = c.requires.0 in
    let is = c.loop-next.invariant log c.requires.1.0 c.requires.1.1 in
    (c.args.sink.now, (log, (is.0, (is.1.1, (c.next_record.new.self, c.in-Some.ensures log is.0 is.1.0)))))

pub loop-next-smaller : goal.loop-next-smaller
loop-next-smaller g c =
    let log = c.requires.0 in
    let is = c.loop-next.invariant log c.requires.1.0 c.requires.1.1 in
    let counted = next_counted log is.0 c.loop-next.undo c.next_record.new.self c.in-Some.next is.1.0
    (c.in-Some.ensures log is.0 is.1.0) in
    omega (arith, counted.0, counted.1)

pub loop-next-preserved : goal.loop-next-preserved
loop-next-preserved g c = λ log may took.
    let is = c.loop-next.invariant log may took in
    let more = c.in-Some.ensures log is.0 is.1.0 in (
      is.0 ++ c.in-Some.next ∷ [],
      (more, c.take.ensures c.args.sink.now log is.0 is.1.1 (c.next_record.new.self, more)),
    )

pub returns : goal.returns
returns g c = λ log may took.
    let is = c.loop-next.invariant log may took in
    subst (λ behind. g.S.UndoSink.took c.args.sink.now log behind c.loop-next.sink)
    (c.in_default.ensures log is.0 is.1.0) is.1.1
