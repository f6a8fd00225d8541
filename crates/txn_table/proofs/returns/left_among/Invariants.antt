use Rattle.std.proofs.Common.{◌<◌, ◌≤◌, ◌-◌, ℕ, get_or, length}
use Rattle.txn_table.specs.Returns.{AreRising}
use Rattle.txn_table.specs.declared.returns.Return.{Return}
use Rattle.txn_table.proofs.returns.left_among.Given as goal

abbrev pub invariant-halves : goal.invariant-halves
invariant-halves l = record {
  order : l.low ≤ l.high;
  within : l.high ≤ length l.made;
  below : AreRising l.made → (k : ℕ) (d : Return) → k < l.low → (get_or l.made k d).lsn < l.at;
  above : AreRising l.made → (k : ℕ) (d : Return) → l.high ≤ k → k < length l.made → l.at < (get_or l.made k d).lsn;
}

abbrev pub decreases-halves : goal.decreases-halves
decreases-halves l = l.high - l.low
