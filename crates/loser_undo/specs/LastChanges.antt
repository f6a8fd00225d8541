-- The LSNs of the last pending changes of losers.
use Rattle.std.specs.Prelude.{ℕ, ◌≡◌, ◌<◌, List, Option, slice_get, slice_index_or}
use Rattle.std.specs.Option.{option_and_then, option_map}
use Rattle.log_records.specs.declared.limits.TheConstants.{MAX_OPEN}
use Rattle.log_rules.specs.Table.{TxnEntry}
use Rattle.log_rules.specs.Transactions.{last_of}

-- that of the one at a place, if it has one
abbrev pub last_change_at : List TxnEntry → ℕ → Option ℕ
last_change_at losers place =
    option_map (λ p. p.lsn) (option_and_then (λ e. last_of e.pending) (slice_get losers place))

-- each stands in its place
abbrev pub AreLastChanges : List TxnEntry → List (Option ℕ) → Type 0
AreLastChanges losers last_changes =
    (place : ℕ) (d : Option ℕ) → place < MAX_OPEN
    → slice_index_or last_changes place d ≡ last_change_at losers place
