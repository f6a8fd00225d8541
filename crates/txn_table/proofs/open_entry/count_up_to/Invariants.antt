use Rattle.std.proofs.Common.{◌<◌, ◌≤◌, ◌-◌, ℕ, get_or, length}
use Rattle.txn_table.specs.CountUpTo.{AreRising}
use Rattle.txn_table.specs.OpenEntry.{changes_of}
use Rattle.log_rules.specs.declared.pending_change.PendingChange.{PendingChange}
use Rattle.txn_table.proofs.open_entry.count_up_to.Given as goal

abbrev pub invariant-halves : goal.invariant-halves
invariant-halves l = record {
  order : l.low ≤ l.high;
  within : l.high ≤ length l.pending;
  below : AreRising (changes_of l.pending) → (k : ℕ) (d : PendingChange) → k < l.low
      → (get_or (changes_of l.pending) k d).lsn ≤ l.lsn;
  above : AreRising (changes_of l.pending) → (k : ℕ) (d : PendingChange) → l.high ≤ k
      → k < length (changes_of l.pending) → l.lsn < (get_or (changes_of l.pending) k d).lsn;
}

abbrev pub decreases-halves : goal.decreases-halves
decreases-halves l = l.high - l.low
