-- Sets of rows.
use Rattle.std.specs.Prelude.{ℕ, ◌≡◌, ◌<◌, ◌^◌, ◌==◌, Bool, true, false, if◌then◌else◌}
use Rattle.std.specs.Int.{bit_at}
use Rattle.slot_claims.specs.declared.row_set.RowSet.{RowSet}
use Rattle.slot_claims.specs.declared.row_set.TheConstants.{ROWS}

abbrev pub no_rows : RowSet
no_rows = record { bits = 0 }

-- the set of one row
abbrev pub only : ℕ → RowSet
only row = record { bits = 2 ^ row }

unfoldable pub has_row : RowSet → ℕ → Bool
has_row set row = bit_at set.bits row == 1

-- the set is another one with this row in it, or without it
abbrev pub IsWith : RowSet → RowSet → ℕ → Bool → Type 0
IsWith set was row present =
    (other : ℕ) → other < ROWS
    → has_row set other ≡ (if other == row then present else has_row was other)

-- the set has a row
pub record HasSome (set : RowSet) : Type 0 where
  pub row : ℕ
  pub within : row < ROWS
  pub there : has_row set row ≡ true

-- the set lacks a row
pub record LacksOne (set : RowSet) : Type 0 where
  pub row : ℕ
  pub within : row < ROWS
  pub lacks : has_row set row ≡ false
