use Rattle.std.proofs.Common.{◌≡◌, None, eqb, take}
use Rattle.std.specs.List.{find}
use Rattle.txn_table.specs.OpenList.{entries_in}
use Rattle.txn_table.proofs.open_list.OpenList.search.Given as goal

abbrev pub invariant-loop-row : goal.invariant-loop-row
invariant-loop-row l = find (λ e. eqb e.txn l.txn) (take l.row-index (entries_in l.self)) ≡ None
