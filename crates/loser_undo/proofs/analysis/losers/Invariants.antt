use Rattle.std.proofs.Common.{◌≡◌, map, take}
use Rattle.loser_undo.proofs.Held.{entry_at}
use Rattle.loser_undo.proofs.analysis.losers.Given as goal

abbrev pub invariant-loop-one : goal.invariant-loop-one
invariant-loop-one l = l.found ≡ map (entry_at l.log.records) (take l.one-index l.one-items)
