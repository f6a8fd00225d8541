-- Who keeps a slot from a transaction: the claims say of its row what the table says of it.
use Rattle.std.proofs.Common.{◌≡◌, ◌≢◌, ◌∙◌, ◌<◌, ◌∷◌, ◌&&◌, ◌++◌, [], ℕ, zero, suc, Bool, true, false, not, List, Option}
use Rattle.std.proofs.Common.{Some, None, map, length, get_or, set, cond, eqb, inl, inr, refl, sym, ap, arith, subst}
use Rattle.std.proofs.lemmas.Bool.{and_from, and_right, cases_eq, eq-eqb, false≢true, ne_eqb}
use Rattle.std.specs.List.{find}
use Rattle.std.specs.Option.{option_map}
use Rattle.page_core.specs.declared.change.ChangeKind.{ChangeKind}
use Rattle.page_core.specs.declared.change.ChangeKind.TheVariants as kinds
use Rattle.slot_claims.specs.declared.claims.Claim.{Claim}
use Rattle.slot_claims.specs.declared.claims.Claims.{Claims}
use Rattle.slot_claims.specs.declared.claims.Hold.{Hold}
use Rattle.txn_table.specs.declared.open_entry.OpenEntry.{OpenEntry}
use Rattle.txn_table.specs.declared.open_list.OpenList.{OpenList}
use Rattle.log_rules.specs.declared.pending_change.PendingChange.{PendingChange}
use Rattle.slot_claims.specs.Claims.{IsFreeFor, IsHeldByOther, KeepsHolds, claim_at, hold_in, no_hold, rows_against}
use Rattle.txn_table.specs.OpenEntry.{Updates, changes_of, entry_view, hold_among, hold_by}
use Rattle.txn_table.specs.OpenList.{Sits, entries_in, entries_of}
use Rattle.txn_table.specs.OpenTransactions.{IsStored, NotesIfMay, Tracks}
use Rattle.slot_claims.specs.RowSet.{has_row}
use Rattle.log_rules.specs.Table.{IsActiveEntry, Table, TxnEntry, entry_after, holder_in, with_entry}
use Rattle.log_records.specs.declared.record.Record.TheVariants.{Update}
use Rattle.page_core.specs.Change.{kind_of}
use Rattle.slot_claims.proofs.Public.{free-before, held-before}
use Rattle.txn_table.proofs.Ranks.{one-of}
use Rattle.txn_table.proofs.Stored.{at-row, says-here, view-changed, view-stays}
use Rattle.txn_table.proofs.Tracked.{IsAt, least-holder}

-- ---- lists

find-nobody : (q : OpenEntry → Bool) (xs : List OpenEntry) (d : OpenEntry)
    → ((k : ℕ) → k < length xs → q (get_or xs k d) ≡ false) → find q xs ≡ None
find-nobody q [] d fails = refl
find-nobody q (x ∷ xs) d fails =
    ap (λ b. cond b (Some x) (find q xs)) (fails 0 (omega arith))
    ∙ find-nobody q xs d (λ k lt. fails (suc k) (omega arith))

first-fails : (b : Bool) (x : OpenEntry) (o : Option OpenEntry) → cond b (Some x) o ≡ None → (b ≡ false) × (o ≡ None)
first-fails true x o none = cc
first-fails false x o none = (refl, none)

none-fails : (q : OpenEntry → Bool) (xs : List OpenEntry) (i : ℕ) (d : OpenEntry) → i < length xs
    → find q xs ≡ None → q (get_or xs i d) ≡ false
none-fails q [] i d lt none = absurd (omega arith)
none-fails q (x ∷ xs) zero d lt none = (first-fails (q x) x (find q xs) none).0
none-fails q (x ∷ xs) (suc i) d lt none =
    none-fails q xs i d (omega arith) (first-fails (q x) x (find q xs) none).1

no-number : (o : Option OpenEntry) → option_map (λ e. e.txn) o ≡ None → o ≡ None
no-number None none = refl
no-number (Some x) none = cc

-- ---- claims

-- a transaction that keeps nothing out of a slot is not in its claim
not-in : (kind : ChangeKind) (claim : Claim) (row : ℕ) → hold_in claim row ≡ no_hold
    → has_row (rows_against claim kind) row ≡ false
not-in kinds.Set claim row none = ap (λ (h : Hold). h.against_sets) none
not-in kinds.Add claim row none = ap (λ (h : Hold). h.against_adds) none

-- one that keeps something out is open
holds-there : (xs : List OpenEntry) (page slot row : ℕ) (d : OpenEntry) → (hold_among xs page slot row ≡ no_hold → ⊥)
    → (i : ℕ) × ((i < length xs) × ((get_or xs i d).row ≡ row))
holds-there [] page slot row d some = absurd (some refl)
holds-there (x ∷ xs) page slot row d some = elim (cases_eq x.row row) [
  | inl same ↦ (0, (omega arith, same))
  | inr other ↦
      let rest = holds-there xs page slot row d (λ none. some
      (ap (λ b. cond b (hold_by (changes_of x.pending.items) page slot) (hold_among xs page slot row))
      (ne_eqb x.row row other) ∙ none)) in
      (suc rest.0, (omega (arith, rest.1.0), rest.1.1))
]

module _ {begun i t : ℕ} {xs : List OpenEntry} {x : OpenEntry} {claims : Claims} (at : IsAt xs i t x)
    (tracks : Tracks begun claims xs) (page slot : ℕ) (kind : ChangeKind) where
  is_holder : OpenEntry → Bool
  is_holder e = not (eqb e.txn t) && has_row (rows_against (claim_at claims page slot) kind) e.row

  own-txn : (get_or xs i x).txn ≡ t
  own-txn = ap (λ (e : OpenEntry). e.txn) at.there ∙ at.txn

  own-row : (get_or xs i x).row ≡ x.row
  own-row = ap (λ (e : OpenEntry). e.row) at.there

  passes-by : IsFreeFor (claim_at claims page slot) kind x.row → (k : ℕ) → k < length xs
      → is_holder (get_or xs k x) ≡ false
  unfolding is_holder
  passes-by free k lt =
      let e = get_or xs k x in
      let has = has_row (rows_against (claim_at claims page slot) kind) e.row in
      elim (cases_eq e.txn t) [
        | inl same ↦ ap (λ b. not b && has) (eq-eqb e.txn t same)
        | inr other ↦
            and_right (not (eqb e.txn t)) has
            (free e.row (tracks.sound k x lt).0
            (λ same. other (ap (λ n. (get_or xs n x).txn)
            (one-of xs k i x tracks.ranked lt at.within (inr (same ∙ sym own-row))) ∙ own-txn)))
      ]

  pub nobody-holds : IsFreeFor (claim_at claims page slot) kind x.row
      → holder_in (record { begun = begun; entries = map entry_view xs }) page slot kind t ≡ None
  unfolding is_holder
  nobody-holds free =
      least-holder page slot kind t tracks
      ∙ ap (option_map (λ (e : OpenEntry). e.txn)) (find-nobody is_holder xs x (passes-by free))

  pub somebody-holds : IsHeldByOther (claim_at claims page slot) kind x.row
      → holder_in (record { begun = begun; entries = map entry_view xs }) page slot kind t ≡ None → ⊥
  unfolding is_holder
  somebody-holds held none =
      let rows = rows_against (claim_at claims page slot) kind in
      let place = holds-there xs page slot held.other x
      (λ nothing. false≢true (sym (not-in kind (claim_at claims page slot) held.other
      (tracks.held page slot held.other held.within ∙ nothing)) ∙ held.held)) in
      let e = get_or xs place.0 x in
      let nobody : find is_holder xs ≡ None
      = no-number (find is_holder xs) (sym (least-holder page slot kind t tracks) ∙ none) in
      let apart : e.txn ≢ t = λ same. held.is_other (sym place.1.1
      ∙ ap (λ n. (get_or xs n x).row)
      (one-of xs place.0 i x tracks.ranked place.1.0 at.within (inl (same ∙ sym own-txn)))
      ∙ own-row) in
      false≢true (sym (none-fails is_holder xs place.0 x place.1.0 nobody)
      ∙ and_from (not (eqb e.txn t)) (has_row rows e.row) (ap not (ne_eqb e.txn t apart))
      (ap (has_row rows) place.1.1 ∙ held.held))

-- ---- an entry that got room makes a change as it would have without

pub updates-before : (before after : Claims) (x y z : OpenEntry) (c : PendingChange) → KeepsHolds before after
    → entry_view y ≡ entry_view x → y.row ≡ x.row → (may : Bool) → Updates after y z c may → Updates before x z c may
updates-before before after x y z c same view row true up = (
  free-before before after c.page c.slot (kind_of c.change) x.row same
      (subst (IsFreeFor (claim_at after c.page c.slot) (kind_of c.change)) row up.0),
  up.1 ∙ ap (λ (v : TxnEntry). let w : TxnEntry = record v { last = c.lsn; pending = v.pending ++ c ∷ [] } in w) view,
)
updates-before before after x y z c same view row false up = (
  held-before before after c.page c.slot (kind_of c.change) x.row same
      (subst (IsHeldByOther (claim_at after c.page c.slot) (kind_of c.change)) row up.0),
  up.1 ∙ view,
)

-- ---- a change is taken, or somebody keeps it out

module _ {begun txn row : ℕ} {claims : Claims} {list : OpenList} {x : OpenEntry}
    (stored : IsStored begun claims list)
    (sits : Sits list.order.items list.rows.items txn row) (there : x ≡ get_or list.rows.items row x)
    (table : Table) (is : (record { begun = begun; entries = map entry_view (entries_in list) }) ≡ table)
    (e : OpenEntry) (c : PendingChange) (active : IsActiveEntry c.prev (entry_view x)) where
  pub notes-update : (may : Bool) → Updates claims x e c may
      → NotesIfMay table
      (record {
        begun = begun;
        entries = map entry_view (entries_of list.order.items (set list.rows.items row e));
      })
      (Update c.lsn txn c.prev c.page c.slot c.change) may
  notes-update true up =
      let at = at-row stored sits there in
      let update = Update c.lsn txn c.prev c.page c.slot c.change in (
        (
          says-here stored sits there table is (IsActiveEntry c.prev) active,
          ap (λ (v : Table). holder_in v c.page c.slot (kind_of c.change) txn) (sym is)
              ∙ nobody-holds at stored.tracks c.page c.slot (kind_of c.change) up.0,
        ),
        ap (λ es. let v : Table = record { begun = begun; entries = es } in v)
            (sym (view-changed stored sits there e (λ v. entry_after v update) up.1))
            ∙ ap (λ (v : Table). with_entry v txn update) is,
      )
  notes-update false up =
      let at = at-row stored sits there in (
        λ may. somebody-holds at stored.tracks c.page c.slot (kind_of c.change) up.0
            (ap (λ (v : Table). holder_in v c.page c.slot (kind_of c.change) txn) is ∙ may.1),
        ap (λ es. let v : Table = record { begun = begun; entries = es } in v)
            (view-stays stored sits there e up.1) ∙ is,
      )
