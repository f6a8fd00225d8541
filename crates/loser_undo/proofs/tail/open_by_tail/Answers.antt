use Rattle.std.proofs.Common.{[], ap, ◌∙◌}
use Rattle.std.specs.List.{fold}
use Rattle.std.proofs.lemmas.List.{take_all}
use Rattle.loser_undo.specs.Tail.{told}
use Rattle.loser_undo.proofs.Named.{told_tail}
use Rattle.loser_undo.proofs.tail.open_by_tail.Goals as goal

pub returns : goal.returns
returns c = λ log of.
    c.loop-next.invariant
    ∙ ap (fold told []) (take_all c.loop-next.next-index c.args.tail.now c.loop-next-test.false)
    ∙ told_tail log c.args.tail.now of
