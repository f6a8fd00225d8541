-- What holds of each entry that is stored holds of each one in the table.
use Rattle.std.proofs.Common.{◌≡◌, ◌↔◌, List, [], ◌∷◌, map, All, ap}
use Rattle.std.proofs.lemmas.List.Elements.{All-cons, All-head, All-map, All-nil, All-tail}
use Rattle.log_rules.specs.Table.{TxnEntry}
use Rattle.txn_table.specs.declared.open_entry.OpenEntry.{OpenEntry}
use Rattle.txn_table.specs.OpenEntry.{entry_view}
use Rattle.txn_table.specs.OpenTransactions.{OpenView}

pub all-viewed : (P : TxnEntry → Type 0) (es : List OpenEntry) → All (λ e. P (entry_view e)) es ↔ All P (map entry_view es)
all-viewed P es = (All-map P entry_view es, from_map es)
  where
    from_map : (es : List OpenEntry) → All P (map entry_view es) → All (λ e. P (entry_view e)) es
    from_map [] all = All-nil (λ (e : OpenEntry). P (entry_view e))
    from_map (e ∷ es) all =
        All-cons (λ (o : OpenEntry). P (entry_view o)) e es (All-head P (entry_view e) (map entry_view es) all)
        (from_map es (All-tail P (entry_view e) (map entry_view es) all))

-- views that are the same have the same table
pub table_is : {v w : OpenView} → v ≡ w → v.table ≡ w.table
table_is is = ap (λ (v : OpenView). v.table) is
