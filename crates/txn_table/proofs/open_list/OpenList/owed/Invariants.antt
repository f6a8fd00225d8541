use Rattle.std.proofs.Common.{◌≡◌, min, take}
use Rattle.std.specs.List.{sum_by}
use Rattle.txn_table.specs.OpenEntry.{entry_view}
use Rattle.txn_table.specs.OpenList.{entries_in}
use Rattle.log_rules.specs.Table.{owed_by_entry}
use Rattle.txn_table.proofs.open_list.OpenList.owed.Given as goal

abbrev pub invariant-loop-row : goal.invariant-loop-row
invariant-loop-row l = l.owed ≡ min (sum_by (λ e. owed_by_entry (entry_view e))
    (take l.row-index (entries_in l.self))) 18446744073709551615
