-- An open transaction as the table stores it.
use Rattle.std.specs.Prelude.{ℕ, ◌≡◌, ◌≢◌, ◌<◌, ◌==◌, Bool, true, false, List, [], ◌∷◌, ◌++◌, map}
use Rattle.std.specs.Prelude.{if◌then◌else◌, ◌&&◌, nat_lt, vec_capacity, vec_len}
use Rattle.std.specs.List.{list_any}
use Rattle.page_core.specs.declared.change.ChangeKind.TheVariants as kind
use Rattle.page_core.specs.Change.{kind_of}
use Rattle.slot_claims.specs.declared.claims.Claims.{Claims}
use Rattle.slot_claims.specs.declared.claims.Hold.{Hold}
use Rattle.txn_table.specs.declared.open_entry.OpenEntry.{OpenEntry}
use Rattle.log_rules.specs.declared.pending_change.PendingChange.{PendingChange}
use Rattle.slot_claims.specs.declared.row_set.TheConstants.{ROWS}
use Rattle.slot_claims.specs.Claims.{IsFreeFor, IsHeldByOther, claim_at, has_room, hold_at, no_hold}
use Rattle.txn_table.specs.Pending.{Pending}
use Rattle.log_rules.specs.Table.{TxnEntry}
use Rattle.log_rules.specs.Transactions.{keeps_out}

abbrev pub changes_of : List Pending → List PendingChange
changes_of ps = map (λ p. p.change) ps

abbrev pub entry_view : OpenEntry → TxnEntry
entry_view e = record {
  txn = e.txn;
  first = e.first;
  last = e.last;
  rolling = e.rolling;
  pending = changes_of e.pending.items;
}

-- an entry with only its Begin
pub record IsBegun (e : OpenEntry) (txn row lsn : ℕ) : Type 0 where
  pub txn_is : e.txn ≡ txn
  pub row_is : e.row ≡ row
  pub first_is : e.first ≡ lsn
  pub last_is : e.last ≡ lsn
  pub active : e.rolling ≡ false
  pub none_pending : e.pending.items ≡ []

-- what these pending changes keep out of a slot
unfoldable pub hold_by : List PendingChange → ℕ → ℕ → Hold
hold_by changes page slot = record {
  against_sets = list_any (keeps_out page slot kind.Set) changes;
  against_adds = list_any (keeps_out page slot kind.Add) changes;
}

-- each says what those below it keep out of its slot
abbrev pub AreStacked : List PendingChange → List Pending → Type 0
AreStacked below [] = Unit {0}
AreStacked below (p ∷ ps) =
    (p.before ≡ hold_by below p.change.page p.change.slot) × AreStacked (below ++ p.change ∷ []) ps

-- the claims say of this row what these pending changes keep out
pub record IsHeld (claims : Claims) (row : ℕ) (ps : List Pending) : Type 0 where
  pub stacked : AreStacked [] ps
  pub held : (page slot : ℕ) → hold_at claims page slot row ≡ hold_by (changes_of ps) page slot

-- the claims say the same of all other rows
abbrev pub KeepsOtherRows : ℕ → Claims → Claims → Type 0
KeepsOtherRows row before after =
    (page slot other : ℕ) → other < ROWS → other ≢ row
    → hold_at after page slot other ≡ hold_at before page slot other

-- a change becomes the last pending one, unless another transaction keeps it out
abbrev pub Pushes : Claims → List Pending → List Pending → ℕ → PendingChange → Bool → Type 0
Pushes before old new row c true =
    IsFreeFor (claim_at before c.page c.slot) (kind_of c.change) row
    × (changes_of new ≡ changes_of old ++ c ∷ [])
Pushes before old new row c false =
    IsHeldByOther (claim_at before c.page c.slot) (kind_of c.change) row × (new ≡ old)

-- an entry gets a change as its last pending one, unless another transaction keeps it out
abbrev pub Updates : Claims → OpenEntry → OpenEntry → PendingChange → Bool → Type 0
Updates before old new c true =
    IsFreeFor (claim_at before c.page c.slot) (kind_of c.change) old.row
    × (entry_view new ≡ record (entry_view old) {
      last = c.lsn;
      pending = changes_of old.pending.items ++ c ∷ [];
    })
Updates before old new c false =
    IsHeldByOther (claim_at before c.page c.slot) (kind_of c.change) old.row
    × (entry_view new ≡ entry_view old)

-- an entry changes, and the claims of its row with it
pub record KeepsRow (old new : OpenEntry) (before after : Claims) : Type 0 where
  pub txn : new.txn ≡ old.txn
  pub row : new.row ≡ old.row
  pub held : IsHeld after new.row new.pending.items
  pub others : KeepsOtherRows old.row before after

-- it can make one more change of a slot without memory
unfoldable pub entry_has_room : Claims → OpenEntry → ℕ → ℕ → Bool
entry_has_room claims e page slot =
    nat_lt (vec_len e.pending) (vec_capacity e.pending) && has_room claims page slot e.row

-- ---- all of them

-- what the transaction of a row keeps out of a slot
abbrev pub hold_among : List OpenEntry → ℕ → ℕ → ℕ → Hold
hold_among [] page slot row = no_hold
hold_among (e ∷ es) page slot row =
    if e.row == row then hold_by (changes_of e.pending.items) page slot
    else hold_among es page slot row
