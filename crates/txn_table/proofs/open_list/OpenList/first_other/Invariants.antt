use Rattle.std.proofs.Common.{◌≡◌, ◌&&◌, None, not, eqb, take}
use Rattle.std.specs.List.{find}
use Rattle.txn_table.specs.OpenList.{entries_in}
use Rattle.slot_claims.specs.RowSet.{has_row}
use Rattle.txn_table.proofs.open_list.OpenList.first_other.Given as goal

abbrev pub invariant-loop-row : goal.invariant-loop-row
invariant-loop-row l =
    find (λ e. not (eqb e.txn l.txn) && has_row l.rows e.row) (take l.row-index (entries_in l.self)) ≡ None
