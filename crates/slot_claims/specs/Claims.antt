-- Which open transactions keep others from a slot, by their rows.
use Rattle.std.specs.Prelude.{ℕ, ◌≡◌, ◌≢◌, ◌<◌, ◌==◌, ◌&&◌, ◌||◌, Bool, true, false}
use Rattle.std.specs.Prelude.{Option, Some, None}
use Rattle.std.specs.Prelude.{if◌then◌else◌}
use Rattle.page_core.specs.declared.change.ChangeKind.{ChangeKind}
use Rattle.page_core.specs.declared.change.ChangeKind.TheVariants as kind
use Rattle.slot_claims.specs.declared.claims.Claim.{Claim}
use Rattle.slot_claims.specs.declared.claims.Claims.{Claims}
use Rattle.slot_claims.specs.declared.claims.Hold.{Hold}
use Rattle.slot_claims.specs.declared.holder_byte.Holder.{Holder}
use Rattle.slot_claims.specs.declared.holder_byte.Holder.TheVariants.{Nobody, One, Adders}
use Rattle.slot_claims.specs.declared.row_set.RowSet.{RowSet}
use Rattle.slot_claims.specs.declared.row_set.TheConstants.{ROWS}
use Rattle.slot_claims.specs.Adders.{has_set_at, rows_at}
use Rattle.slot_claims.specs.Marks.{has_mark, holder_at}
use Rattle.slot_claims.specs.RowSet.{has_row, no_rows, only}

-- ---- what one transaction keeps out of a slot

abbrev pub no_hold : Hold
no_hold = record { against_sets = false; against_adds = false }

-- with one more pending change: any keeps Sets out, and a Set keeps Adds out too
abbrev pub hold_with : Hold → ChangeKind → Hold
hold_with hold kind.Set = record { against_sets = true; against_adds = true }
hold_with hold kind.Add = record { against_sets = true; against_adds = hold.against_adds }

-- it keeps out no more than another one, which keeps something out
pub record IsWeaker (hold than : Hold) : Type 0 where
  pub than_some : than.against_sets ≡ true
  pub than_adds : hold.against_adds ≡ true → than.against_adds ≡ true
  pub sets : hold.against_adds ≡ true → hold.against_sets ≡ true

-- ---- what all transactions keep out of a slot

abbrev pub no_claim : Claim
no_claim = record { against_sets = no_rows; against_adds = no_rows }

abbrev pub rows_against : Claim → ChangeKind → RowSet
rows_against claim kind.Set = claim.against_sets
rows_against claim kind.Add = claim.against_adds

abbrev pub hold_in : Claim → ℕ → Hold
hold_in claim row = record {
  against_sets = has_row claim.against_sets row;
  against_adds = has_row claim.against_adds row;
}

-- no other transaction than that of this row keeps such a change out
abbrev pub IsFreeFor : Claim → ChangeKind → ℕ → Type 0
IsFreeFor claim kind row =
    (other : ℕ) → other < ROWS → other ≢ row → has_row (rows_against claim kind) other ≡ false

-- another one does
pub record IsHeldByOther (claim : Claim) (kind : ChangeKind) (row : ℕ) : Type 0 where
  pub other : ℕ
  pub within : other < ROWS
  pub is_other : other ≢ row
  pub held : has_row (rows_against claim kind) other ≡ true

-- ---- all slots

-- what a holder keeps out, where these are the rows of the slot's adders
abbrev pub claim_of : Holder → RowSet → Claim
claim_of Nobody rows = no_claim
claim_of (One row kind.Add) rows = record { against_sets = only row; against_adds = no_rows }
claim_of (One row kind.Set) rows = record { against_sets = only row; against_adds = only row }
claim_of Adders rows = record { against_sets = rows; against_adds = no_rows }

abbrev pub claim_at : Claims → ℕ → ℕ → Claim
claim_at claims page slot =
    claim_of (holder_at claims.marks page slot) (rows_at claims.adders page slot)

abbrev pub hold_at : Claims → ℕ → ℕ → ℕ → Hold
hold_at claims page slot row = hold_in (claim_at claims page slot) row

-- ---- room for a change

-- a change by the row's transaction leaves the rows of the slot's adders alone
abbrev pub is_alone : Holder → ℕ → Bool
is_alone Nobody row = true
is_alone (One holder kind) row = holder == row
is_alone Adders row = false

-- the row's transaction can take a slot without memory
unfoldable pub has_room : Claims → ℕ → ℕ → ℕ → Bool
has_room claims page slot row =
    has_mark claims.marks page slot
    && (is_alone (holder_at claims.marks page slot) row || has_set_at claims.adders page slot)

-- ---- a change of the claims

-- the transaction of this row keeps this out of a slot, and all else stays
abbrev pub SetsHold : Claims → Claims → ℕ → ℕ → ℕ → Hold → Type 0
SetsHold before after page slot row hold =
    (p s other : ℕ) → other < ROWS
    → hold_at after p s other
    ≡ (if (page == p && slot == s) && other == row then hold else hold_at before p s other)

abbrev pub KeepsHolds : Claims → Claims → Type 0
KeepsHolds before after = (p s other : ℕ) → hold_at after p s other ≡ hold_at before p s other

-- a slot is taken for a change of the row's transaction, which kept this out before
pub record Taken (before after : Claims) (page slot row : ℕ) (kind : ChangeKind)
    (hold : Hold) : Type 0 where
  pub free : IsFreeFor (claim_at before page slot) kind row
  pub was : hold ≡ hold_at before page slot row
  pub sets : SetsHold before after page slot row (hold_with hold kind)

-- or another one keeps the change out
pub record Refused (before after : Claims) (page slot row : ℕ)
    (kind : ChangeKind) : Type 0 where
  pub held : IsHeldByOther (claim_at before page slot) kind row
  pub same : KeepsHolds before after

abbrev pub Takes : Claims → Claims → ℕ → ℕ → ℕ → ChangeKind → Option Hold → Type 0
Takes before after page slot row kind (Some hold) = Taken before after page slot row kind hold
Takes before after page slot row kind None = Refused before after page slot row kind
