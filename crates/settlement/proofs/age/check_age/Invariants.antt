use Rattle.std.proofs.Common.{◌≤◌, take}
use Rattle.std.specs.List.{All}
use Rattle.settlement.specs.Receipt.{written}
use Rattle.settlement.proofs.age.check_age.Given as goal

-- the records of the receipts so far are not older
abbrev pub invariant-loop-receipt : goal.invariant-loop-receipt
invariant-loop-receipt l = All (λ lsn. l.fn.bound ≤ lsn) (written (take l.receipt-index l.receipts))
