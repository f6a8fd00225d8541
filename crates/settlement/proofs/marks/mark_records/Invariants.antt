use Rattle.std.proofs.Common.{ℕ, ◌≡◌, ◌++◌, List, length, take}
use Rattle.settlement.specs.Marks.{AreLogged, AreMarked}
use Rattle.settlement.specs.Receipt.{written}
use Rattle.settlement.proofs.marks.mark_records.Given as goal

-- the records of the receipts so far stand in the log, and are marked
abbrev pub invariant-loop-receipt : goal.invariant-loop-receipt
invariant-loop-receipt l = record {
  lengths : length l.marks ≡ length l.records;
  logged : AreLogged l.records l.forced_end (take l.receipt-index l.receipts);
  marked : (lsns : List ℕ) → AreMarked l.initial.marks lsns
      → AreMarked l.marks (lsns ++ written (take l.receipt-index l.receipts));
}
