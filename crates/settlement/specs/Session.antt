-- When the receipts of a session stand.
use Rattle.std.specs.Prelude.{ℕ, ◌≡◌, ◌<◌, ◌⊎◌, Bool, false, List, length, take, slice_index_or}
use Rattle.log_records.specs.declared.record.Record.{Record}
use Rattle.settlement.specs.declared.receipt.Receipt.{Receipt}
use Rattle.settlement.specs.Marks.{IsTaken}
use Rattle.settlement.specs.Receipt.{Stands, is_read, position}

-- each receipt of the session stands
abbrev pub AllStand : List Record → ℕ → List Receipt → Type 0
AllStand rs forced_end receipts = (i : ℕ) (d : Receipt) → i < length receipts
    → Stands rs forced_end (take i receipts) (slice_index_or receipts i d)

-- the receipt at this position does not stand, or it has an LSN that another receipt has
pub record IsUnsettled (rs : List Record) (forced_end : ℕ) (marks : List Bool)
    (before : List Receipt) (receipt : Receipt) (at : ℕ) : Type 0 where
  pub place : position receipt ≡ at
  pub why : (¬ Stands rs forced_end before receipt)
      ⊎ ((is_read receipt ≡ false) × IsTaken marks before at)
