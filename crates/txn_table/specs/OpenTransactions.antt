-- The open transactions as the table stores them.
use Rattle.std.specs.Prelude.{ℕ, ◌≡◌, ◌≢◌, ◌<◌, ◌≤◌, ◌==◌, Bool, true, false, List, [], ◌∷◌, map}
use Rattle.std.specs.List.{All, AllByRecursion, find}
use Rattle.std.specs.Option.{option_map_or}
use Rattle.slot_claims.specs.declared.claims.Claims.{Claims}
use Rattle.txn_table.specs.declared.open_entry.OpenEntry.{OpenEntry}
use Rattle.txn_table.specs.declared.open_list.OpenList.{OpenList}
use Rattle.log_records.specs.declared.record.Record.{Record}
use Rattle.log_records.specs.declared.record.Record.TheVariants.{Update}
use Rattle.slot_claims.specs.declared.row_set.TheConstants.{ROWS}
use Rattle.slot_claims.specs.Claims.{hold_at}
use Rattle.txn_table.specs.OpenEntry.{AreStacked, entry_has_room, hold_among}
use Rattle.txn_table.specs.OpenList.{IsSound, entries_in}
use Rattle.log_rules.specs.Growth.{MayGrow}
use Rattle.log_rules.specs.Table.{MayNote, Table, noted}

-- the table, and how it is stored, on which it depends for which changes there is room
pub record OpenView : Type 0 where
  pub table : Table
  pub claims : Claims
  pub entries : List OpenEntry

-- an open transaction can make one more change of a slot without memory
unfoldable pub has_room_in : OpenView → ℕ → ℕ → ℕ → Bool
has_room_in view txn page slot =
    option_map_or (λ e. entry_has_room view.claims e page slot)
    (find (λ e. e.txn == txn) view.entries) false

-- a record can be noted without memory
abbrev pub HasRoomFor : OpenView → Record → Type 0
HasRoomFor view (Update lsn txn prev page slot change) = has_room_in view txn page slot ≡ true
HasRoomFor view r = ¬ MayGrow r

-- the number of a transaction, and its row
abbrev pub key_of : OpenEntry → ℕ × ℕ
key_of e = (e.txn, e.row)

-- the numbers rise, and no two have one row
abbrev pub AreRanked : List (ℕ × ℕ) → Type 0
AreRanked [] = Unit {0}
AreRanked (k ∷ ks) = AllByRecursion (λ j. (k.0 < j.0) × (j.1 ≢ k.1)) ks × AreRanked ks

abbrev pub IsSoundEntry : OpenEntry → Type 0
IsSoundEntry e = (e.row < ROWS) × AreStacked [] e.pending.items

-- the entries are in order, and the claims say what they keep out
pub record Tracks (begun : ℕ) (claims : Claims) (entries : List OpenEntry) : Type 0 where
  pub ranked : AreRanked (map key_of entries)
  pub reached : AllByRecursion (λ k. k.0 ≤ begun) (map key_of entries)
  pub sound : All IsSoundEntry entries
  pub held : (page slot row : ℕ) → row < ROWS
      → hold_at claims page slot row ≡ hold_among entries page slot row

-- the table stores them on rows
pub record IsStored (begun : ℕ) (claims : Claims) (list : OpenList) : Type 0 where
  pub in_rows : IsSound list
  pub tracks : Tracks begun claims (entries_in list)

-- a record is noted if it may come next, and else nothing changes
abbrev pub NotesIfMay : Table → Table → Record → Bool → Type 0
NotesIfMay old new r true = MayNote old r × (new ≡ noted old r)
NotesIfMay old new r false = ¬ MayNote old r × (new ≡ old)
