-- The receipts of all sessions of a run.
use Rattle.std.specs.Prelude.{ℕ, ◌≡◌, ◌<◌, ◌≤◌, ◌⊎◌, List, [], length, take, map, filter}
use Rattle.std.specs.Prelude.{slice_index_or}
use Rattle.std.specs.List.{flat_map}
use Rattle.log_records.specs.declared.record.Record.{Record}
use Rattle.settlement.specs.declared.receipt.Receipt.{Receipt}
use Rattle.settlement.specs.declared.receipt.Receipt.TheVariants.{Stepped}
use Rattle.settlement.specs.declared.receipt.TxnStep.TheVariants as step
use Rattle.settlement.specs.Counts.{is_change}
use Rattle.settlement.specs.Receipt.{HasAt, IsStepOf, Stands, position, times, written}

-- the receipts of all sessions, one session behind the other
abbrev pub all_receipts : List (List Receipt) → List Receipt
all_receipts sessions = flat_map (λ receipts. receipts) sessions

-- the LSNs of the changes that receipts are of
abbrev pub changed : List Receipt → List ℕ
changed receipts = map position (filter is_change receipts)

-- where the receipt is of a commit, the log has its record
abbrev pub IsCommitIn : List Record → Receipt → Type 0
IsCommitIn rs (Stepped it) = it.step ≡ step.Commit → HasAt rs it.lsn (IsStepOf it.txn it.step)
IsCommitIn rs other = Unit {0}

-- no number is there twice
abbrev pub AreApart : List ℕ → Type 0
AreApart numbers = (x : ℕ) → times x numbers ≤ 1

-- a receipt with this position does not stand
pub record HasBadReceipt (rs : List Record) (forced_end : ℕ) (sessions : List (List Receipt))
    (at : ℕ) : Type 0 where
  pub session : ℕ
  pub index : ℕ
  pub session_within : session < length sessions
  pub index_within : index < length (slice_index_or sessions session [])
  pub place : (d : Receipt)
      → position (slice_index_or (slice_index_or sessions session []) index d) ≡ at
  pub bad : (d : Receipt) → ¬ Stands rs forced_end
      (take index (slice_index_or sessions session []))
      (slice_index_or (slice_index_or sessions session []) index d)

-- a receipt with this position does not stand, or two have it as the LSN of their record
abbrev pub AreWrongAt : List Record → ℕ → List (List Receipt) → ℕ → Type 0
AreWrongAt rs forced_end sessions at =
    HasBadReceipt rs forced_end sessions at
    ⊎ (1 < times at (written (all_receipts sessions)))
