use Rattle.std.proofs.Common.{ℕ, ◌<◌, take, slice_index_or}
use Rattle.settlement.specs.Receipt.{IsBehind}
use Rattle.settlement.specs.declared.receipt.Receipt.{Receipt}
use Rattle.settlement.proofs.order.check_order.Given as goal

-- the receipts so far are in order
abbrev pub invariant-loop-i : goal.invariant-loop-i
invariant-loop-i l =
    (k : ℕ) (d : Receipt) → k < l.i → IsBehind (take k l.receipts) (slice_index_or l.receipts k d)
