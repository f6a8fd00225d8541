use Rattle.std.proofs.Common.{◌≡◌, [], take}
use Rattle.std.specs.List.{fold}
use Rattle.loser_undo.specs.Tail.{told}
use Rattle.loser_undo.proofs.tail.open_by_tail.Given as goal

abbrev pub invariant-loop-next : goal.invariant-loop-next
invariant-loop-next l = l.known.items ≡ fold told [] (take l.next-index l.tail)
