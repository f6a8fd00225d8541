-- The open transactions in the order of their numbers, each in its row.
use Rattle.std.specs.Prelude.{ℕ, ◌≡◌, ◌<◌, ◌≤◌, ◌==◌, true, false, List, [], ◌∷◌, ◌++◌, length}
use Rattle.std.specs.Prelude.{slice_get, slice_index, slice_index_or, slice_set, nat_lt}
use Rattle.std.specs.Prelude.{if◌then◌else◌}
use Rattle.std.specs.List.{filter_map, list_any}
use Rattle.txn_table.specs.declared.open_entry.OpenEntry.{OpenEntry}
use Rattle.txn_table.specs.declared.open_list.OpenList.{OpenList}
use Rattle.slot_claims.specs.declared.row_set.RowSet.{RowSet}
use Rattle.slot_claims.specs.declared.row_set.TheConstants.{ROWS}
use Rattle.txn_table.specs.OpenEntry.{IsBegun}
use Rattle.slot_claims.specs.RowSet.{has_row}

-- the entries of these rows, in this order
abbrev pub entries_of : List ℕ → List OpenEntry → List OpenEntry
entries_of order rows = filter_map (slice_get rows) order

abbrev pub entries_in : OpenList → List OpenEntry
entries_in list = entries_of list.order.items list.rows.items

-- each row of the order is there, and no two of its places have one; each entry knows its row;
-- and the rows of the order are those that are taken
pub record IsInRow (order : List ℕ) (rows : List OpenEntry) (taken : RowSet) : Type 0 where
  pub few : length rows ≤ ROWS
  pub own : (s : ℕ) (d : OpenEntry) → s < length rows → (slice_index_or rows s d).row ≡ s
  pub there : (i : ℕ) → i < length order → slice_index order i < length rows
  pub apart : (i j : ℕ) → i < length order → j < length order
      → slice_index order i ≡ slice_index order j → i ≡ j
  pub stands : (i : ℕ) → i < length order → has_row taken (slice_index order i) ≡ true
  pub sits : (s : ℕ) → s < ROWS → has_row taken s ≡ true
      → (i : ℕ) × ((i < length order) × (slice_index order i ≡ s))

abbrev pub IsSound : OpenList → Type 0
IsSound list = IsInRow list.order.items list.rows.items list.taken

-- the row of an open transaction, and its place in the order
pub record Sits (order : List ℕ) (rows : List OpenEntry) (txn row : ℕ) : Type 0 where
  pub place : ℕ
  pub within : place < length order
  pub row_is : slice_index order place ≡ row
  pub below : row < length rows
  pub txn_is : (d : OpenEntry) → (slice_index_or rows row d).txn ≡ txn

-- it takes a row: one that was there, or the next
pub record TakesRow (old new : List OpenEntry) (txn row lsn : ℕ) : Type 0 where
  pub entry : OpenEntry
  pub begun : IsBegun entry txn row lsn
  pub rows : new
      ≡ (if nat_lt row (length old) then slice_set old row entry else old ++ entry ∷ [])

-- it becomes the last one, on a row that nobody had
pub record Adds (old new : List OpenEntry) (txn lsn : ℕ) : Type 0 where
  pub row : ℕ
  pub entry : OpenEntry
  pub begun : IsBegun entry txn row lsn
  pub within : row < ROWS
  pub free : list_any (λ e. row == e.row) old ≡ false
  pub entries : new ≡ old ++ entry ∷ []
