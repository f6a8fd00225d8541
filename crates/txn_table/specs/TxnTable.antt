-- A transaction table, and the log whose records were noted in it.
use Rattle.std.specs.Prelude.{ℕ, ◌≡◌, ◌<◌, ◌≤◌, ◌^◌, List, length, filter, nat_le, Option}
use Rattle.log_records.specs.declared.limits.TheConstants.{MAX_RECORDS}
use Rattle.log_records.specs.declared.record.Record.{Record}
use Rattle.log_rules.specs.Linked.{IsLinked}
use Rattle.log_rules.specs.Table.{Table, owed_in, table_of}
use Rattle.log_rules.specs.Transactions.{open_in}
use Rattle.log_records.specs.Least.{least}

-- the table is that of this linked log
pub record IsTableOf (rs : List Record) (table : Table) : Type 0 where
  pub linked : IsLinked rs
  pub few : length rs ≤ MAX_RECORDS
  pub made : table ≡ table_of rs

-- the least transaction that is open in the log, of those with this number or one above it
abbrev pub next_open : List Record → ℕ → Option ℕ
next_open rs from = least (filter (λ t. nat_le from t) (open_in rs))

-- so many records are owed by the table, as far as the type can count them
abbrev pub IsOwed : Table → ℕ → Type 0
IsOwed table count = owed_in table < 2 ^ 64 → count ≡ owed_in table
