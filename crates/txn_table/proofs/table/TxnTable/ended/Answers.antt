use Rattle.std.proofs.Common.{ℕ, List, ap₂, map, sym, ◌∙◌}
use Rattle.log_rules.specs.Table.{Table, TxnEntry, entry_of}
use Rattle.txn_table.proofs.table.TxnTable.ended.Goals as goal

pub returns : goal.returns
returns c = λ rs closed count.
    c.ended.ensures
    ∙ ap₂ (λ (n : ℕ) (ts : List ℕ). let t : Table = record { begun = n; entries = map (entry_of rs) ts } in t) count (sym closed)
