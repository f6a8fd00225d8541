-- What a caller reads of the table of open transactions.
use Rattle.std.specs.Prelude.{ℕ, length, map, filter, nat_le, Option}
use Rattle.txn_table.specs.declared.txn_state.TxnState.{TxnState}
use Rattle.log_rules.specs.Table.{TxnEntry, Table}
use Rattle.log_records.specs.Least.{least}

-- the numbers of an entry
abbrev pub state_of : TxnEntry → TxnState
state_of e = record {
  txn = e.txn;
  first = e.first;
  last = e.last;
  rolling = e.rolling;
  pending = length e.pending;
}

-- the least open transaction from this number on
abbrev pub next_in : Table → ℕ → Option ℕ
next_in table from = least (filter (λ n. nat_le from n) (map (λ e. e.txn) table.entries))
