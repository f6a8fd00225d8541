use Rattle.std.proofs.Common.{ℕ, ◌≡◌, ◌-◌, ◌/◌, ◌<◌, ◌≤◌, length, min, take, slice_index_or}
use Rattle.std.specs.List.{All}
use Rattle.log_records.specs.Image.{redo_all}
use Rattle.settlement.specs.Receipt.{HoldsAsRead, position}
use Rattle.settlement.specs.declared.receipt.Receipt.{Receipt}
use Rattle.settlement.proofs.reads.check_reads.Given as goal

-- the log is redone as far as the reads so far need it, which those that follow need too
abbrev pub invariant-loop-receipt : goal.invariant-loop-receipt
invariant-loop-receipt l = record {
  lengths : length l.pages ≡ length l.fn.pages;
  pages : l.pages ≡ redo_all (take l.redone l.records) (length l.fn.pages);
  behind : (j : ℕ) (d : Receipt) → l.receipt-index ≤ j → j < length l.receipts
      → l.redone ≤ min ((position (slice_index_or l.receipts j d) - 1) / 64) (length l.records);
  read : All (HoldsAsRead l.records) (take l.receipt-index l.receipts);
}
