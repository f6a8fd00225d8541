-- Who holds a slot, in one byte.
use Rattle.std.specs.Prelude.{ℕ, ◌/◌, ◌%◌, ◌<◌, ◌==◌, if◌then◌else◌}
use Rattle.page_core.specs.declared.change.ChangeKind.TheVariants as kind
use Rattle.slot_claims.specs.declared.holder_byte.Holder.{Holder}
use Rattle.slot_claims.specs.declared.holder_byte.Holder.TheVariants.{Nobody, One, Adders}
use Rattle.slot_claims.specs.declared.holder_byte.HolderByte.{HolderByte}
use Rattle.slot_claims.specs.declared.row_set.TheConstants.{ROWS}

-- its row, if it names one, is one
abbrev pub HasRow : Holder → Type 0
HasRow Nobody = Unit {0}
HasRow (One row k) = row < ROWS
HasRow Adders = Unit {0}

-- what the number stands for, with this row
abbrev pub holder_by : ℕ → ℕ → Holder
holder_by number row =
    if number == 1 then One row kind.Add
    else (if number == 2 then One row kind.Set else (if number == 3 then Adders else Nobody))

-- the holder that a byte says
unfoldable pub holder_of : HolderByte → Holder
holder_of mark = holder_by (mark.byte / ROWS) (mark.byte % ROWS)
