-- The table of open transactions on its rows: what each change keeps.
use Rattle.std.proofs.Common.{◌≡◌, ◌∙◌, ◌<◌, ◌+◌, ◌∷◌, [], ℕ, Bool, List, Option, None, Some, map, length, get_or, set}
use Rattle.std.proofs.Common.{cond, eqb, inl, inr, not, refl, sym, ap, subst, arith}
use Rattle.std.proofs.lemmas.Bool.{cases_lt}
use Rattle.std.proofs.lemmas.List.{get_or-set_same, length-set, set-get_or}
use Rattle.std.proofs.lemmas.List.Folds.{find_at}
use Rattle.std.proofs.lemmas.Option.{get_or_from_slice_get, slice_get_past}
use Rattle.std.specs.List.{filter, find, list_any, position_or_len, remove, slice_get}
use Rattle.std.specs.Option.{IsSome, IsSomeAnd, option_map}
use Rattle.slot_claims.specs.declared.claims.Claims.{Claims}
use Rattle.txn_table.specs.declared.open_entry.OpenEntry.{OpenEntry}
use Rattle.txn_table.specs.declared.open_list.OpenList.{OpenList}
use Rattle.txn_table.specs.Pending.{Pending}
use Rattle.txn_table.specs.OpenEntry.{IsHeld, KeepsRow, changes_of, entry_view}
use Rattle.slot_claims.specs.declared.row_set.TheConstants.{ROWS}
use Rattle.txn_table.specs.OpenList.{Adds, IsInRow, IsSound, Sits, entries_in, entries_of}
use Rattle.txn_table.specs.OpenTransactions.{IsStored, Tracks}
use Rattle.log_rules.specs.Table.{TxnEntry, Table, entry_in}
use Rattle.txn_table.proofs.RowPlaces.{entries-remove, entries-set, in_rows-set, sits-at}
use Rattle.txn_table.proofs.Tracked.{IsAt, entry-there, find-view, held-at, is-there, tracks-drop, tracks-push}
use Rattle.txn_table.proofs.Tracked.{tracks-put, view-drop, view-put, view-same}

-- what a search finds has a place
pub found-at : (q : OpenEntry → Bool) (xs : List OpenEntry) (x : OpenEntry) → find q xs ≡ Some x
    → (i : ℕ) × ((i < length xs) × (x ≡ get_or xs i x))
found-at q xs x found =
    let n = position_or_len q xs in
    let at : slice_get xs n ≡ Some x = sym (find_at q xs) ∙ found in
    elim (cases_lt n (length xs)) [
      | inl below ↦ (n, (below, sym (get_or_from_slice_get xs n x x at)))
      | inr above ↦ absurd (is-there (Some x) refl (sym at ∙ slice_get_past xs n above))
    ]

pub no-changes : (ps : List Pending) → changes_of ps ≡ [] → ps ≡ []
no-changes [] none = refl
no-changes (p ∷ ps) none = cc

-- a number that no entry has
pub missing-txn : (txn : ℕ) (xs : List OpenEntry) → find (λ e. eqb e.txn txn) xs ≡ None
    → find (λ v. eqb v.txn txn) (map entry_view xs) ≡ None
missing-txn txn xs none = find-view (λ v. eqb v.txn txn) xs ∙ ap (option_map entry_view) none

module _ {begun txn row : ℕ} {claims : Claims} {list : OpenList} {x : OpenEntry}
    (stored : IsStored begun claims list)
    (sits : Sits list.order.items list.rows.items txn row) (there : x ≡ get_or list.rows.items row x) where
  pub at-row : IsAt (entries_in list) sits.place txn x
  at-row =
      let at = sits-at list.order.items list.rows.items list.taken txn row x stored.in_rows sits in
      let here : get_or (entries_in list) sits.place x ≡ x = at.1 ∙ sym there in
      let is : x.txn ≡ txn = ap (λ (e : OpenEntry). e.txn) there ∙ sits.txn_is x in
      record {
        within = at.0;
        there = here;
        txn = is;
        found = ap (λ n. find (λ v. eqb v.txn n) (map entry_view (entries_in list))) (sym is)
            ∙ entry-there sits.place x stored.tracks at.0 (sym here);
      }

  pub row-is : x.row ≡ row
  row-is = ap (λ (e : OpenEntry). e.row) there ∙ stored.in_rows.own row x sits.below

  pub same-rows : list.rows.items ≡ set list.rows.items row x
  same-rows =
      sym (ap (λ (y : OpenEntry). set list.rows.items row y) there ∙ set-get_or list.rows.items row x)

  -- nothing changes
  pub keeps-itself : KeepsRow x x claims claims
  keeps-itself = record {
    txn = refl;
    row = refl;
    held = held-at at-row stored.tracks;
    others = λ page slot other within apart. refl;
  }

  -- no pending change is new or gone
  pub keeps-alone : (e : OpenEntry) → e.txn ≡ x.txn → e.row ≡ x.row → e.pending.items ≡ x.pending.items
      → KeepsRow x e claims claims
  keeps-alone e same_txn same_row same_items = record {
    txn = same_txn;
    row = same_row;
    held = subst (λ ps. IsHeld claims e.row ps) (sym same_items)
        (subst (λ n. IsHeld claims n x.pending.items) (sym same_row) (held-at at-row stored.tracks));
    others = λ page slot other within apart. refl;
  }

  -- the entry on the row changes
  module _ (e : OpenEntry) where
    pub entries-put : entries_of list.order.items (set list.rows.items row e) ≡ set (entries_in list) sits.place e
    entries-put =
        entries-set list.order.items list.rows.items list.taken sits.place row e stored.in_rows sits.within
        sits.row_is

    pub in_rows-put : e.row ≡ x.row → IsInRow list.order.items (set list.rows.items row e) list.taken
    in_rows-put same =
        in_rows-set list.order.items list.rows.items list.taken row e stored.in_rows sits.below (same ∙ row-is)

    pub tracks-row : (after : Claims) → KeepsRow x e claims after
        → Tracks begun after (entries_of list.order.items (set list.rows.items row e))
    tracks-row after kept = subst (Tracks begun after) (sym entries-put)
        (tracks-put at-row stored.tracks after e kept)

    pub view-changed : (g : TxnEntry → TxnEntry) → entry_view e ≡ g (entry_view x)
        → map (λ v. cond (eqb v.txn txn) (g v) v) (map entry_view (entries_in list))
        ≡ map entry_view (entries_of list.order.items (set list.rows.items row e))
    view-changed g is = view-put at-row stored.tracks g e is ∙ ap (map entry_view) (sym entries-put)

    pub view-stays : entry_view e ≡ entry_view x
        → map entry_view (entries_of list.order.items (set list.rows.items row e)) ≡ map entry_view (entries_in list)
    view-stays same = ap (map entry_view) entries-put ∙ view-same at-row stored.tracks e same

    pub sits-still : Sits list.order.items (set list.rows.items row e) e.txn row
    sits-still = record {
      place = sits.place;
      within = sits.within;
      row_is = sits.row_is;
      below = omega (arith, sits.below, length-set list.rows.items row e);
      txn_is = λ d. ap (λ (y : OpenEntry). y.txn) (get_or-set_same list.rows.items row e d sits.below);
    }

    -- and its transaction is open no more
    module _ (gone : OpenList) (order_is : gone.order.items ≡ remove list.order.items sits.place)
        (rows_are : gone.rows.items ≡ set list.rows.items row e) where
      pub entries-gone : entries_in gone ≡ remove (set (entries_in list) sits.place e) sits.place
      entries-gone =
          ap (λ os. entries_of os gone.rows.items) order_is
          ∙ ap (entries_of (remove list.order.items sits.place)) rows_are
          ∙ entries-remove list.order.items (set list.rows.items row e) sits.place e
          (λ k lt. omega (arith, stored.in_rows.there k lt, length-set list.rows.items row e)) sits.within
          ∙ ap (λ xs. remove xs sits.place) entries-put

      pub stored-gone : (after : Claims) → KeepsRow x e claims after → e.pending.items ≡ [] → IsSound gone
          → IsStored begun after gone
      stored-gone after kept none sound = record {
        in_rows = sound;
        tracks = subst (Tracks begun after) (sym entries-gone) (tracks-drop at-row stored.tracks after e kept none);
      }

      pub view-gone : e.txn ≡ x.txn → e.row ≡ x.row
          → filter (λ v. not (eqb v.txn txn)) (map entry_view (entries_in list)) ≡ map entry_view (entries_in gone)
      view-gone same_txn same_row =
          view-drop at-row stored.tracks e same_txn same_row ∙ ap (map entry_view) (sym entries-gone)

  -- ---- what the table says of the transaction

  module _ (table : Table) (is : (record { begun = begun; entries = map entry_view (entries_in list) }) ≡ table) where
    pub entry-here : entry_in table txn ≡ Some (entry_view x)
    entry-here = ap (λ (v : Table). entry_in v txn) (sym is) ∙ at-row.found

    pub says-here : (P : TxnEntry → Type 0) → P (entry_view x) → IsSomeAnd (entry_in table txn) P
    says-here P p = subst (λ o. IsSomeAnd o P) (sym entry-here) p

    pub said-here : (P : TxnEntry → Type 0) → IsSomeAnd (entry_in table txn) P → P (entry_view x)
    said-here P p = subst (λ o. IsSomeAnd o P) entry-here p

-- ---- nobody has the number

none-and : (P : TxnEntry → Type 0) → (o : Option TxnEntry) → o ≡ None → IsSomeAnd o P → ⊥
none-and P None is p = p
none-and P (Some v) is p = cc

pub nobody-here : (begun txn : ℕ) (xs : List OpenEntry) (table : Table) (P : TxnEntry → Type 0)
    → (record { begun = begun; entries = map entry_view xs }) ≡ table
    → find (λ e. eqb e.txn txn) xs ≡ None → IsSomeAnd (entry_in table txn) P → ⊥
nobody-here begun txn xs table P is none some =
    none-and P (entry_in table txn) (ap (λ (v : Table). entry_in v txn) (sym is) ∙ missing-txn txn xs none) some

pub nobody-open : (begun txn : ℕ) (xs : List OpenEntry) (table : Table)
    → (record { begun = begun; entries = map entry_view xs }) ≡ table
    → find (λ e. eqb e.txn txn) xs ≡ None → IsSome (entry_in table txn) → ⊥
nobody-open begun txn xs table is none some =
    is-there (entry_in table txn) some (ap (λ (v : Table). entry_in v txn) (sym is) ∙ missing-txn txn xs none)

-- ---- one more

pub stored-add : {begun : ℕ} {claims : Claims} {list : OpenList} (now : OpenList) (txn lsn : ℕ)
    → IsStored begun claims list → IsSound now → Adds (entries_in list) (entries_in now) txn lsn → txn ≡ begun + 1
    → IsStored (begun + 1) claims now
stored-add {begun} {claims} {list} now txn lsn stored sound adds next = record {
  in_rows = sound;
  tracks = subst (Tracks (begun + 1) claims) (sym adds.entries)
      (tracks-push adds.entry stored.tracks (adds.begun.txn_is ∙ next)
      (subst (λ n. n < ROWS) (sym adds.begun.row_is) adds.within)
      (ap (λ n. list_any (λ (f : OpenEntry). eqb n f.row) (entries_in list)) adds.begun.row_is ∙ adds.free)
      adds.begun.none_pending);
}
