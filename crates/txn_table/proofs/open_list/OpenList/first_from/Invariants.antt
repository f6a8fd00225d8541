use Rattle.std.proofs.Common.{◌≡◌, None, take}
use Rattle.std.specs.List.{find}
use lib.Dec.{leb}
use Rattle.txn_table.specs.OpenList.{entries_in}
use Rattle.txn_table.proofs.open_list.OpenList.first_from.Given as goal

abbrev pub invariant-loop-row : goal.invariant-loop-row
invariant-loop-row l = find (λ e. leb l.from e.txn) (take l.row-index (entries_in l.self)) ≡ None
