-- The records that receipts speak of, each marked once.
use Rattle.std.specs.Prelude.{ℕ, ◌≡◌, ◌<◌, ◌++◌, ◌⊎◌, Bool, false, List, slice_index_or}
use Rattle.std.specs.Prelude.{if◌then◌else◌}
use Rattle.std.specs.List.{All}
use Rattle.log_records.specs.declared.record.Record.{Record}
use Rattle.log_records.specs.Log.{lsn_of}
use Rattle.settlement.specs.Receipt.{IsLogged, is_read, position, times, written}
use Rattle.settlement.specs.declared.receipt.Receipt.{Receipt}

-- the records with these LSNs are marked, and no LSN is there twice
pub record AreMarked (marks : List Bool) (lsns : List ℕ) : Type 0 where
  pub counted : (i : ℕ)
      → times (lsn_of i) lsns ≡ (if slice_index_or marks i false then 1 else 0)
  pub of_records : All (λ lsn. (i : ℕ) × (lsn ≡ lsn_of i)) lsns

-- the records of receipts stand in the log
abbrev pub AreLogged : List Record → ℕ → List Receipt → Type 0
AreLogged rs forced_end receipts =
    All (λ x. is_read x ≡ false → IsLogged rs forced_end x) receipts

-- another receipt has the LSN: one of those before it, or one whose record was marked before
abbrev pub IsTaken : List Bool → List Receipt → ℕ → Type 0
IsTaken marks before at =
    (lsns : List ℕ) → AreMarked marks lsns → 0 < times at (lsns ++ written before)

-- the record of the receipt does not stand in the log, or another one has its LSN
pub record IsUnlogged (rs : List Record) (forced_end : ℕ) (marks : List Bool)
    (before : List Receipt) (receipt : Receipt) (at : ℕ) : Type 0 where
  pub is_written : is_read receipt ≡ false
  pub place : position receipt ≡ at
  pub why : (¬ IsLogged rs forced_end receipt) ⊎ IsTaken marks before at
