-- The table of open transactions: what each change keeps.
use Rattle.std.proofs.Common.{zero, suc, ◌≡◌, ◌≢◌, ◌∙◌, ◌<◌, ◌≤◌, ◌+◌, ◌++◌, ◌∷◌, [], ℕ, Bool, true, false, ◌&&◌, not}
use Rattle.std.proofs.Common.{List, Option, Some, None, map, length, get_or, set, drop, take, cond, eqb, refl, sym, ap}
use Rattle.std.proofs.Common.{subst, ⊎_elim, arith}
use Rattle.std.proofs.lemmas.Bool.{cases_eq, eq-eqb, false≢true, ne_eqb, or_parts}
use Rattle.std.proofs.lemmas.List.{get_or-map, get_or-set_same, length-set, map-append, map-set, set-get_or}
use Rattle.std.proofs.lemmas.List.Elements.{All-nil, All-append, All-drop, All-push, All-set, All-take}
use Rattle.std.specs.List.{AllByRecursion, filter, find, list_any, remove}
use Rattle.std.specs.Option.{IsSome, MatchOption, option_map}
use lib.Dec.{leb}
use Rattle.page_core.specs.declared.change.ChangeKind.{ChangeKind}
use Rattle.page_core.specs.declared.change.ChangeKind.TheVariants as kinds
use Rattle.slot_claims.specs.declared.claims.Claim.{Claim}
use Rattle.slot_claims.specs.declared.claims.Claims.{Claims}
use Rattle.slot_claims.specs.declared.claims.Hold.{Hold}
use Rattle.txn_table.specs.declared.open_entry.OpenEntry.{OpenEntry}
use Rattle.slot_claims.specs.declared.row_set.TheConstants.{ROWS}
use Rattle.slot_claims.specs.Claims.{claim_at, hold_at, hold_in, no_claim, rows_against}
use Rattle.slot_claims.specs.RowSet.{has_row}
use Rattle.txn_table.specs.OpenEntry.{AreStacked, IsHeld, KeepsRow, changes_of, entry_view, hold_among, hold_by}
use Rattle.txn_table.specs.OpenTransactions.{AreRanked, IsSoundEntry, Tracks, key_of}
use Rattle.log_rules.specs.Table.{TxnEntry, holder_in}
use Rattle.log_rules.specs.Transactions.{keeps_out}
use Rattle.log_records.specs.Least.{least}
use Rattle.txn_table.specs.TxnState.{next_in}
use Rattle.txn_table.proofs.Firsts.{cond_map, least-first}
use Rattle.log_rules.proofs.Public.{find-map}
use Rattle.slot_claims.proofs.Public.{hold_in-no_claim}
use Rattle.txn_table.proofs.Ranks.{find-at, all-push, all-remove, hold-at, hold-push, hold-remove, hold-set}
use Rattle.txn_table.proofs.Ranks.{keys-set, ranked-push, ranked-remove, view-remove, view-set}

-- ---- one of them

pub tracks-at : {begun : ℕ} {claims : Claims} {xs : List OpenEntry} (i : ℕ) (d : OpenEntry) → Tracks begun claims xs
    → i < length xs
    → IsHeld claims (get_or xs i d).row (get_or xs i d).pending.items
tracks-at {begun} {claims} {xs} i d t l = record {
  stacked = (t.sound i d l).1;
  held = λ page slot. t.held page slot (get_or xs i d).row (t.sound i d l).0 ∙ hold-at xs i d page slot t.ranked l;
}

pub tracks-set : {begun : ℕ} {before : Claims} {xs : List OpenEntry} (after : Claims) (i : ℕ) (d e : OpenEntry)
    → Tracks begun before xs
    → i < length xs → KeepsRow (get_or xs i d) e before after → Tracks begun after (set xs i e)
tracks-set {begun} {before} {xs} after i d e t l k =
    let keys = keys-set xs i d e l k.txn k.row in
    record {
      ranked = subst AreRanked (sym keys) t.ranked;
      reached = subst (λ ks. AllByRecursion (λ j. j.0 ≤ begun) ks) (sym keys) t.reached;
      sound = All-set IsSoundEntry xs i e
          (subst (λ n. n < ROWS) (sym k.row) (t.sound i d l).0, k.held.stacked) t.sound;
      held = λ page slot row within. (⊎_elim
          (λ same. ap (λ n. hold_at after page slot n) (sym same) ∙ k.held.held page slot
          ∙ sym (ap (λ b. cond b (hold_by (changes_of e.pending.items) page slot) (hold_among xs page slot row))
          (eq-eqb e.row row same)))
          (λ other. k.others page slot row within (λ is. other (k.row ∙ sym is)) ∙ t.held page slot row within
          ∙ sym (ap (λ b. cond b (hold_by (changes_of e.pending.items) page slot) (hold_among xs page slot row))
          (ne_eqb e.row row other)))
          (cases_eq e.row row))
          ∙ sym (hold-set xs i d e page slot row t.ranked l k.row);
    }

-- ---- one more

apart : (begun row : ℕ) (xs : List OpenEntry) → AllByRecursion (λ k. k.0 ≤ begun) (map key_of xs)
    → list_any (λ e. eqb row e.row) xs ≡ false
    → AllByRecursion (λ k. (k.0 < begun + 1) × (row ≢ k.1)) (map key_of xs)
apart begun row [] a free = tt
apart begun row (x ∷ xs) a free =
    let parts = or_parts (eqb row x.row) (list_any (λ e. eqb row e.row) xs) free in
    let below : x.txn ≤ begun = a.0 in
    ((omega arith, λ same. false≢true (sym parts.0 ∙ eq-eqb row x.row same)), apart begun row xs a.1 parts.1)

above : (begun : ℕ) (ks : List (ℕ × ℕ)) → AllByRecursion (λ k. k.0 ≤ begun) ks
    → AllByRecursion (λ k. k.0 ≤ begun + 1) ks
above begun [] a = tt
above begun (k ∷ ks) a = let below : k.0 ≤ begun = a.0 in (omega arith, above begun ks a.1)

pub tracks-push : {begun : ℕ} {claims : Claims} {xs : List OpenEntry} (e : OpenEntry) → Tracks begun claims xs
    → e.txn ≡ begun + 1 → e.row < ROWS → list_any (λ f. eqb e.row f.row) xs ≡ false → e.pending.items ≡ []
    → Tracks (begun + 1) claims (xs ++ e ∷ [])
tracks-push {begun} {claims} {xs} e t next within free none =
    let keys = map-append key_of xs (e ∷ []) in
    let beside = subst (λ n. AllByRecursion (λ k. (k.0 < n) × (e.row ≢ k.1)) (map key_of xs)) (sym next)
    (apart begun e.row xs t.reached free) in
    record {
      ranked = subst AreRanked (sym keys) (ranked-push (map key_of xs) (key_of e) t.ranked beside);
      reached = subst (λ ks. AllByRecursion (λ j. j.0 ≤ begun + 1) ks) (sym keys)
          (all-push (λ j. j.0 ≤ begun + 1) (map key_of xs) (key_of e) (above begun (map key_of xs) t.reached)
          (let last : e.txn ≤ begun + 1 = omega arith in last));
      sound = All-push IsSoundEntry xs e t.sound (within, subst (λ ps. AreStacked [] ps) (sym none) tt);
      held = λ page slot row inside. t.held page slot row inside ∙ sym (hold-push xs e page slot row none);
    }

-- ---- one less

pub tracks-remove : {begun : ℕ} {claims : Claims} {xs : List OpenEntry} (i : ℕ) (d : OpenEntry)
    → Tracks begun claims xs → i < length xs
    → (get_or xs i d).pending.items ≡ [] → Tracks begun claims (remove xs i)
tracks-remove {begun} {claims} {xs} i d t l none = record {
  ranked = ranked-remove xs i t.ranked l;
  reached = all-remove (λ j. j.0 ≤ begun) xs i t.reached l;
  sound = All-append IsSoundEntry (take i xs) (drop (suc i) xs) (All-take IsSoundEntry i xs t.sound)
      (All-drop IsSoundEntry (suc i) xs t.sound);
  held = λ page slot row inside. t.held page slot row inside
      ∙ sym (hold-remove xs i d page slot row t.ranked l none);
}

pub remove-set : (xs : List OpenEntry) (i : ℕ) (e : OpenEntry) → i < length xs → remove (set xs i e) i ≡ remove xs i
remove-set [] i e l = absurd (omega arith)
remove-set (x ∷ xs) zero e l = refl
remove-set (x ∷ xs) (suc i) e l = ap (λ ys. x ∷ ys) (remove-set xs i e (omega arith))

-- ---- look-ups

pub find-view : (q : TxnEntry → Bool) (xs : List OpenEntry)
    → find q (map entry_view xs) ≡ option_map entry_view (find (λ e. q (entry_view e)) xs)
find-view q xs = find-map entry_view q xs

pub no-place : (b : Bool) (n : ℕ) → cond b (Some n) None ≡ None → b ≡ false
no-place true n e = cc
no-place false n e = refl

-- a place of the list, and the entry of transaction t there
pub record IsAt (xs : List OpenEntry) (i t : ℕ) (x : OpenEntry) : Type 0 where
  pub within : i < length xs
  pub there : get_or xs i x ≡ x
  pub txn : x.txn ≡ t
  pub found : find (λ v. eqb v.txn t) (map entry_view xs) ≡ Some (entry_view x)

pub is-there : {X : Type 0} (o : Option X) → IsSome o → o ≡ None → ⊥
is-there (Some x) s e = cc
is-there None s e = false≢true s

-- ---- what an entry keeps, in two steps

pub keeps-then : {x y z : OpenEntry} {a b c : Claims} → KeepsRow x y a b → KeepsRow y z b c → KeepsRow x z a c
keeps-then {x} {y} {z} {a} {b} {c} first next = record {
  txn = next.txn ∙ first.txn;
  row = next.row ∙ first.row;
  held = next.held;
  others = λ page slot other within apart.
      next.others page slot other within (λ is. apart (is ∙ first.row))
      ∙ first.others page slot other within apart;
}

-- ---- a change of the entry at a place

module _ {begun i t : ℕ} {xs : List OpenEntry} {x : OpenEntry} {before : Claims} (at : IsAt xs i t x)
    (tracks : Tracks begun before xs) where
  pub held-at : IsHeld before x.row x.pending.items
  held-at = subst (λ (e : OpenEntry). IsHeld before e.row e.pending.items) at.there (tracks-at i x tracks at.within)

  pub tracks-put : (after : Claims) (e : OpenEntry) → KeepsRow x e before after → Tracks begun after (set xs i e)
  tracks-put after e k = tracks-set after i x e tracks at.within
      (subst (λ (y : OpenEntry). KeepsRow y e before after) (sym at.there) k)

  pub view-put : (g : TxnEntry → TxnEntry) (e : OpenEntry) → entry_view e ≡ g (entry_view x)
      → map (λ v. cond (eqb v.txn t) (g v) v) (map entry_view xs) ≡ map entry_view (set xs i e)
  view-put g e is =
      view-set g t xs i x e tracks.ranked at.within (ap (λ (y : OpenEntry). y.txn) at.there ∙ at.txn)
      (is ∙ ap (λ (y : OpenEntry). g (entry_view y)) (sym at.there))

  -- a search for its number finds it, and what is put in its place
  pub finds-it : find (λ e. eqb e.txn t) xs ≡ Some x
  finds-it =
      find-at t xs i x tracks.ranked at.within (ap (λ (e : OpenEntry). e.txn) at.there ∙ at.txn) ∙ ap Some at.there

  pub finds-put : (e : OpenEntry) → e.txn ≡ x.txn → e.row ≡ x.row → find (λ y. eqb y.txn t) (set xs i e) ≡ Some e
  finds-put e txn row =
      let there : get_or (set xs i e) i x ≡ e = get_or-set_same xs i e x at.within in
      let keys = keys-set xs i x e at.within (txn ∙ ap (λ (y : OpenEntry). y.txn) (sym at.there))
      (row ∙ ap (λ (y : OpenEntry). y.row) (sym at.there)) in
      find-at t (set xs i e) i x (subst AreRanked (sym keys) tracks.ranked)
      (let l : i < length (set xs i e) = rw (length-set xs i e) at.within in l)
      (ap (λ (y : OpenEntry). y.txn) there ∙ txn ∙ at.txn)
      ∙ ap Some there

  pub view-same : (e : OpenEntry) → entry_view e ≡ entry_view x → map entry_view (set xs i e) ≡ map entry_view xs
  view-same e is =
      map-set entry_view xs i e
      ∙ ap (λ v. set (map entry_view xs) i v)
      (is ∙ ap entry_view (sym at.there) ∙ sym (get_or-map entry_view xs i x (entry_view x) at.within))
      ∙ set-get_or (map entry_view xs) i (entry_view x)

  -- an entry that goes
  pub tracks-drop : (after : Claims) (e : OpenEntry) → KeepsRow x e before after → e.pending.items ≡ []
      → Tracks begun after (remove (set xs i e) i)
  tracks-drop after e k none =
      let same : get_or (set xs i e) i x ≡ e = get_or-set_same xs i e x at.within in
      tracks-remove i x (tracks-put after e k) (let l : i < length (set xs i e) = rw (length-set xs i e) at.within in l)
      (ap (λ (y : OpenEntry). y.pending.items) same ∙ none)

  pub view-drop : (e : OpenEntry) → e.txn ≡ x.txn → e.row ≡ x.row
      → filter (λ v. not (eqb v.txn t)) (map entry_view xs) ≡ map entry_view (remove (set xs i e) i)
  view-drop e txn row =
      view-remove t xs i x tracks.ranked at.within (ap (λ (y : OpenEntry). y.txn) at.there ∙ at.txn)
      ∙ ap (map entry_view) (sym (remove-set xs i e at.within))

-- ---- what a slot's claim says of an entry

kept-out : (kind : ChangeKind) (claim : Claim) (e : OpenEntry) (page slot : ℕ)
    → hold_in claim e.row ≡ hold_by (changes_of e.pending.items) page slot
    → list_any (keeps_out page slot kind) (changes_of e.pending.items) ≡ has_row (rows_against claim kind) e.row
unfolding hold_by
kept-out kinds.Set claim e page slot h = sym (ap (λ (x : Hold). x.against_sets) h)
kept-out kinds.Add claim e page slot h = sym (ap (λ (x : Hold). x.against_adds) h)

pub least-holder : {begun : ℕ} {claims : Claims} {xs : List OpenEntry} (page slot : ℕ) (kind : ChangeKind) (t : ℕ)
    → Tracks begun claims xs
    → holder_in (record { begun = begun; entries = map entry_view xs }) page slot kind t
    ≡ option_map (λ e. e.txn) (find (λ e. not (eqb e.txn t) && has_row
    (rows_against (claim_at claims page slot) kind) e.row) xs)
least-holder {begun} {claims} {xs} page slot kind t tracks =
    least-first (λ v. not (eqb v.txn t) && list_any (keeps_out page slot kind) v.pending)
    (λ e. not (eqb e.txn t) && has_row (rows_against (claim_at claims page slot) kind) e.row) xs tracks.ranked
    (λ i d l. ap (λ b. not (eqb (get_or xs i d).txn t) && b)
    (kept-out kind (claim_at claims page slot) (get_or xs i d) page slot ((tracks-at i d tracks l).held page slot)))

-- ---- no entry

pub tracks-nil : (begun : ℕ) (claims : Claims) → ((page slot : ℕ) → claim_at claims page slot ≡ no_claim)
    → Tracks begun claims []
tracks-nil begun claims none = record {
  ranked = tt;
  reached = tt;
  sound = All-nil IsSoundEntry;
  held = λ page slot row within. ap (λ k. hold_in k row) (none page slot) ∙ hold_in-no_claim row;
}

pub match_some : {X : Type 0} (o : Option X) (x : X) (P : Type 0) (Q : X → Type 0) → o ≡ Some x → Q x
    → MatchOption o P Q
match_some o x P Q e q = subst (λ v. MatchOption v P Q) (sym e) q

pub match_none : {X : Type 0} (o : Option X) (P : Type 0) (Q : X → Type 0) → o ≡ None → P → MatchOption o P Q
match_none o P Q e p = subst (λ v. MatchOption v P Q) (sym e) p

-- ---- the next one

txns-filter : (p : ℕ → Bool) (vs : List TxnEntry)
    → filter p (map (λ v. v.txn) vs) ≡ map (λ v. v.txn) (filter (λ v. p v.txn) vs)
txns-filter p [] = refl
txns-filter p (v ∷ vs) =
    ap (λ ns. cond (p v.txn) (v.txn ∷ ns) ns) (txns-filter p vs) ∙ sym (cond_map (p v.txn) v (filter (λ v. p v.txn) vs))

pub least-next : {begun : ℕ} {claims : Claims} {xs : List OpenEntry} (from : ℕ) → Tracks begun claims xs
    → next_in (record { begun = begun; entries = map entry_view xs }) from ≡ option_map (λ e. e.txn)
    (find (λ e. leb from e.txn) xs)
least-next {begun} {claims} {xs} from tracks =
    ap least (txns-filter (λ n. leb from n) (map entry_view xs))
    ∙ least-first (λ v. leb from v.txn) (λ e. leb from e.txn) xs tracks.ranked (λ i d l. refl)

-- the entry of the transaction at a place
pub entry-there : {begun : ℕ} {claims : Claims} {xs : List OpenEntry} (i : ℕ) (x : OpenEntry) → Tracks begun claims xs
    → i < length xs
    → x ≡ get_or xs i x → find (λ v. eqb v.txn x.txn) (map entry_view xs) ≡ Some (entry_view x)
entry-there {begun} {claims} {xs} i x tracks l there =
    find-view (λ v. eqb v.txn x.txn) xs
    ∙ ap (option_map entry_view) (find-at x.txn xs i x tracks.ranked l (ap (λ (e : OpenEntry). e.txn) (sym there)))
    ∙ ap (λ e. Some (entry_view e)) (sym there)
