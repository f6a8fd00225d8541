-- Room for a change of a slot by an open transaction.
use Rattle.std.proofs.Common.{◌≡◌, ◌<◌, ◌≤◌, ℕ, true, false, Some}
use Rattle.std.proofs.Common.{ap, eqb}
use Rattle.std.proofs.lemmas.Bool.{and_from, and_left, and_parts, and_right, le-ltb, lt-ltb, ltb-true}
use Rattle.std.specs.List.{find}
use Rattle.std.specs.Option.{option_map_or}
use Rattle.std.specs.Prelude.{vec_capacity, vec_len}
use lib.Dec.{ltb}
use Rattle.slot_claims.specs.declared.claims.Claims.{Claims}
use Rattle.slot_claims.specs.Claims.{has_room}
use Rattle.txn_table.specs.declared.open_entry.OpenEntry.{OpenEntry}
use Rattle.txn_table.specs.OpenEntry.{entry_has_room}
use Rattle.txn_table.specs.OpenTransactions.{OpenView, has_room_in}

-- ---- of one transaction

module _ (claims : Claims) (e : OpenEntry) (page slot : ℕ) where
  pub spare_and_room : entry_has_room claims e page slot ≡ true
      → (vec_len e.pending < vec_capacity e.pending) × (has_room claims page slot e.row ≡ true)
  unfolding entry_has_room
  spare_and_room has =
      let both = and_parts (ltb (vec_len e.pending) (vec_capacity e.pending)) _ has in
      (ltb-true (vec_len e.pending) (vec_capacity e.pending) both.0, both.1)

  pub has_both : vec_len e.pending < vec_capacity e.pending → has_room claims page slot e.row ≡ true
      → entry_has_room claims e page slot ≡ true
  unfolding entry_has_room
  has_both spare room =
      and_from (ltb (vec_len e.pending) (vec_capacity e.pending)) _
      (lt-ltb (vec_len e.pending) (vec_capacity e.pending) spare) room

  pub no_spare : vec_capacity e.pending ≤ vec_len e.pending → entry_has_room claims e page slot ≡ false
  unfolding entry_has_room
  no_spare full =
      and_left (ltb (vec_len e.pending) (vec_capacity e.pending)) _
      (le-ltb (vec_len e.pending) (vec_capacity e.pending) full)

  pub no_claim_room : has_room claims page slot e.row ≡ false → entry_has_room claims e page slot ≡ false
  unfolding entry_has_room
  no_claim_room none = and_right (ltb (vec_len e.pending) (vec_capacity e.pending)) _ none

-- ---- of a transaction among all

pub room_is : (view : OpenView) (txn page slot : ℕ) (e : OpenEntry) → find (λ y. eqb y.txn txn) view.entries ≡ Some e
    → has_room_in view txn page slot ≡ entry_has_room view.claims e page slot
unfolding has_room_in
room_is view txn page slot e found =
    ap (λ o. option_map_or (λ y. entry_has_room view.claims y page slot) o false) found
