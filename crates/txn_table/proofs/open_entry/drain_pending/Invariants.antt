use Rattle.std.proofs.Common.{vec_len}
use Rattle.txn_table.specs.OpenEntry.{IsHeld, KeepsOtherRows}
use Rattle.txn_table.proofs.open_entry.drain_pending.Given as goal

abbrev pub invariant-loop-pending : goal.invariant-loop-pending
invariant-loop-pending l = record {
  held : IsHeld l.claims l.row l.pending.items;
  others : KeepsOtherRows l.row l.initial.claims l.claims;
}

abbrev pub decreases-loop-pending : goal.decreases-loop-pending
decreases-loop-pending l = vec_len l.pending
