use Rattle.std.proofs.Common.{ℕ, ◌<◌, get_or}
use Rattle.loser_undo.specs.declared.tail.OpenTxn.{OpenTxn}
use Rattle.loser_undo.proofs.tail.place_of.Given as goal

abbrev pub invariant-loop-place : goal.invariant-loop-place
invariant-loop-place l = (k : ℕ) (d : OpenTxn) → k < l.place → (get_or l.known k d).txn < l.fn.txn
