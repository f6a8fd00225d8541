use Rattle.std.proofs.Common.{◌<◌, Contains, take}
use Rattle.std.specs.List.{All}
use Rattle.txn_table.specs.OpenList.{entries_in}
use Rattle.txn_table.proofs.open_list.OpenList.are_among.Given as goal

abbrev pub invariant-loop-row : goal.invariant-loop-row
invariant-loop-row l = All (λ e. e.first < l.lsn → Contains l.txns e.txn) (take l.row-index (entries_in l.self))
