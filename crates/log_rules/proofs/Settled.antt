-- The number in a slot is the committed one with the pending changes of the open transactions on top.
use Rattle.std.proofs.Common.{◌≡◌, ◌≢◌, ℕ, ◌^◌, ◌<◌, true, false, ◌&&◌, not, eqb, List, [], ◌∷◌, ◌++◌, All, sym, refl}
use Rattle.std.proofs.Common.{ap, subst, subst₂, ◌∙◌, inl, inr, append-nil, eq-eqb, true≢false}
use Rattle.std.specs.Prelude.{None}
use Rattle.std.specs.List.{flat_map, list_any}
use Rattle.std.proofs.lemmas.Bool.{and_left, cases_eq, eqb-false, not-true}
use Rattle.std.proofs.lemmas.List.Concat.{flat_map-append}
use Rattle.std.proofs.lemmas.List.Elements.{All-nil}
use Rattle.std.proofs.Math.Bool.{and-false}
use Rattle.page_core.specs.declared.change.Change.{Change}
use Rattle.log_records.specs.declared.record.Record.{Record}
use Rattle.log_records.specs.declared.record.Record.TheVariants.{Begin}
use Rattle.log_records.specs.Record.{IsChange}
use Rattle.log_rules.specs.Transactions.{begun, begun_by, is_last, is_open, open_in, pending_from, records_of, txn_of}
use Rattle.log_rules.specs.Linked.{IsLinked, number_in}
use Rattle.log_rules.specs.Committed.{committed}
use Rattle.log_rules.proofs.Begun.{zero_not_open}
use Rattle.log_rules.proofs.Pushes.{has_begun, is_open_push_other, is_open_push_own, open_in_push_begin}
use Rattle.log_rules.proofs.Pushes.{open_in_push_last, open_in_push_same}
use Rattle.log_rules.proofs.Steps.{not_among}
use Rattle.log_rules.proofs.Room.{open_once}
use Rattle.log_rules.proofs.Chains.{Apart, AddsWith, Leads, apart_back, changed_by, changed_by_fits, leads-append}
use Rattle.log_rules.proofs.Slots.{changes_on}
use Rattle.log_rules.proofs.Fronts.{in_front, swap_ends}
use Rattle.log_rules.proofs.Owned.{HasChange, all_of_each, among_filter, flat_map_agree_but, own, own_push}
use Rattle.log_rules.proofs.Owned.{own_push_other, own_valid, rest_of}

-- ---- what is known of each slot

-- two open transactions with changes of the slot have only Adds
abbrev pub AreApart : List Record → ℕ → ℕ → Type 0
AreApart rs page slot = (o u : ℕ) → is_open rs o ≡ true → is_open rs u ≡ true → o ≢ u
    → Apart (own rs page slot o) (own rs page slot u)

-- these changes lead from the committed number to the one that is there
abbrev pub Explain : List Record → ℕ → ℕ → List Change → Type 0
Explain rs page slot cs = Leads cs (committed rs page slot) (number_in rs page slot)

-- as the pending changes of the open transactions do
pub record Accounts (rs : List Record) (page slot : ℕ) : Type 0 where
  pub fits : committed rs page slot < 2 ^ 64
  pub apart : AreApart rs page slot
  pub leads : Explain rs page slot (flat_map (own rs page slot) (open_in rs))

-- ---- the others among the open ones

among_rest : (rs : List Record) (t o : ℕ) → list_any (λ n. eqb n o) (rest_of rs t) ≡ true
    → (o ≢ t) × (is_open rs o ≡ true)
among_rest rs t o found =
    let in_rest = among_filter (λ n. not (eqb n t)) o (open_in rs) found in
    let in_open = among_filter (is_open rs) o (begun rs) in_rest.1 in
    (eqb-false o t (not-true (eqb o t) in_rest.0), in_open.0)

not_in_rest : (rs : List Record) (t : ℕ) → list_any (λ n. eqb n t) (rest_of rs t) ≡ false
not_in_rest rs t = not_among (λ o. not (eqb o t)) t (ap not (eq-eqb t t refl)) (open_in rs)

-- the open ones stay apart if the transaction of one more record stays apart from the others
apart_push : (rs : List Record) (r : Record) (page slot : ℕ) → AreApart rs page slot
    → ((u : ℕ) → u ≢ txn_of r → is_open rs u ≡ true → is_open (rs ++ r ∷ []) (txn_of r) ≡ true
    → Apart (own (rs ++ r ∷ []) page slot (txn_of r)) (own rs page slot u))
    → AreApart (rs ++ r ∷ []) page slot
apart_push rs r page slot before its o u still_o still_u apart = elim (cases_eq (txn_of r) o) [
  | inl same ↦ elim (cases_eq (txn_of r) u) [
    | inl same_u ↦ absurd (apart (sym same ∙ same_u))
    | inr other ↦ with_other o u same other still_o still_u
  ]
  | inr other ↦ elim (cases_eq (txn_of r) u) [
    | inl same ↦ apart_back _ _ (with_other u o same other still_u still_o)
    | inr other_u ↦
        subst₂ Apart (sym (own_push_other rs r page slot o other)) (sym (own_push_other rs r page slot u other_u))
        (before o u (was_open o other still_o) (was_open u other_u still_u) apart)
  ]
]
  where
    was_open : (n : ℕ) → txn_of r ≢ n → is_open (rs ++ r ∷ []) n ≡ true → is_open rs n ≡ true
    was_open n other still = sym (is_open_push_other rs r n other) ∙ still

    with_other : (m n : ℕ) → txn_of r ≡ m → txn_of r ≢ n
        → is_open (rs ++ r ∷ []) m ≡ true → is_open (rs ++ r ∷ []) n ≡ true
        → Apart (own (rs ++ r ∷ []) page slot m) (own (rs ++ r ∷ []) page slot n)
    with_other m n same other still_m still_n =
        let still_t = ap (is_open (rs ++ r ∷ [])) same ∙ still_m in
        let here = its n (λ e. other (sym e)) (was_open n other still_n) still_t in
        subst₂ Apart (ap (own (rs ++ r ∷ []) page slot) same) (sym (own_push_other rs r page slot n other)) here

-- ---- one slot of a linked log

module _ (rs : List Record) (page slot : ℕ) (linked : IsLinked rs) (valid : All HasChange rs)
    (known : Accounts rs page slot) where
  -- the changes of the transaction, and those of the others
  abbrev mine : ℕ → List Change
  mine = own rs page slot

  abbrev others : ℕ → List Change
  others t = flat_map (own rs page slot) (rest_of rs t)

  apart_from_others : (t : ℕ) (cs : List Change) → ((u : ℕ) → u ≢ t → is_open rs u ≡ true → Apart cs (mine u))
      → Apart (others t) cs
  apart_from_others t cs each = all_of_each (AddsWith cs) mine (rest_of rs t) (λ o found.
      let facts = among_rest rs t o found in
      apart_back cs (mine o) (each o facts.0 facts.1))

  others_valid : (t : ℕ) → All IsChange (others t)
  others_valid t = all_of_each IsChange mine (rest_of rs t) (λ o found. own_valid rs page slot o valid)

  mine_apart : (t : ℕ) → is_open rs t ≡ true → Apart (others t) (mine t)
  mine_apart t still =
      apart_from_others t (mine t) (λ u other still_u. known.apart t u still still_u (λ same. other (sym same)))

  -- the number is made by the changes of the transaction and then those of the others, or the other way round
  mine_first : (t : ℕ) → is_open rs t ≡ true → Explain rs page slot (mine t ++ others t)
  mine_first t still =
      (in_front mine t (open_in rs) (open_once rs linked t still) (mine_apart t still) _ _).0 known.leads

  mine_last : (t : ℕ) → is_open rs t ≡ true → Explain rs page slot (others t ++ mine t)
  mine_last t still =
      swap_ends (mine t) _ _ _ (apart_back (others t) (mine t) (mine_apart t still)) (mine_first t still)

  -- a record of one transaction leaves the changes of the others
  same_others : (r : Record) → others (txn_of r) ≡ flat_map (own (rs ++ r ∷ []) page slot) (rest_of rs (txn_of r))
  same_others r =
      let t = txn_of r in
      let unchanged = λ (o : ℕ) (other : o ≢ t). sym (own_push_other rs r page slot o (λ same. other (sym same))) in
      flat_map_agree_but t mine (own (rs ++ r ∷ []) page slot) unchanged (rest_of rs t) (not_in_rest rs t)

  -- a record of an open transaction that does not end it
  pub accounts_kept : (r : Record) → begun_by r ≡ None → is_last r ≡ false → is_open rs (txn_of r) ≡ true
      → committed (rs ++ r ∷ []) page slot ≡ committed rs page slot
      → ((u : ℕ) → u ≢ txn_of r → is_open rs u ≡ true
      → Apart (own (rs ++ r ∷ []) page slot (txn_of r)) (own rs page slot u))
      → ((cs : List Change) → All IsChange cs → Explain rs page slot (cs ++ own rs page slot (txn_of r))
      → Explain (rs ++ r ∷ []) page slot (cs ++ own (rs ++ r ∷ []) page slot (txn_of r)))
      → Accounts (rs ++ r ∷ []) page slot
  accounts_kept r none more still same_committed its step = record {
    fits = subst (λ n. n < 2 ^ 64) (sym same_committed) known.fits;
    apart = apart_push rs r page slot known.apart (λ u other still_u still_t. its u other still_u);
    leads =
        let t = txn_of r in
        let now = own (rs ++ r ∷ []) page slot in
        let Explains : List Change → Type 0 = Explain (rs ++ r ∷ []) page slot in
        let free : Apart (others t) (now t) = apart_from_others t (now t) its in
        let last = step (others t) (others_valid t) (mine_last t still) in
        let first = swap_ends (others t) (now t) _ _ free last in
        let same = same_others r in
        let free_now = subst (λ cs. Apart cs (now t)) same free in
        let first_now = subst (λ cs. Explains (now t ++ cs)) same first in
        let once = open_once rs linked t still in
        let whole = (in_front now t (open_in rs) once free_now _ _).1 first_now in
        subst (λ os. Explains (flat_map now os)) (sym (open_in_push_same rs r none more)) whole;
  }

  -- a record that ends an open transaction, whose changes are committed then
  pub accounts_ended : (r : Record) → begun_by r ≡ None → is_last r ≡ true → is_open rs (txn_of r) ≡ true
      → committed (rs ++ r ∷ []) page slot ≡ changed_by (own rs page slot (txn_of r)) (committed rs page slot)
      → number_in (rs ++ r ∷ []) page slot ≡ number_in rs page slot
      → Accounts (rs ++ r ∷ []) page slot
  accounts_ended r none last still now_committed same_number =
      let t = txn_of r in
      let from = committed rs page slot in
      let now = own (rs ++ r ∷ []) page slot in
      let fits = changed_by_fits (mine t) from (own_valid rs page slot t valid) known.fits in
      let closed = is_open_push_own rs r t none refl ∙ ap (λ l. is_open rs t && not l) last
      ∙ and-false (is_open rs t) in
      let rest = leads-append (mine t) (others t) from (number_in rs page slot) (mine_first t still) in
      let rest_now = subst₂ (Leads (others t)) (sym now_committed) (sym same_number) rest in
      let Explains : List Change → Type 0 = Explain (rs ++ r ∷ []) page slot in
      record {
        fits = subst (λ n. n < 2 ^ 64) (sym now_committed) fits;
        apart = apart_push rs r page slot known.apart (λ u other still_u still_t.
            absurd (true≢false (sym still_t ∙ closed)));
        leads = subst
            (λ os. Explains (flat_map now os))
            (sym (open_in_push_last rs r none last)) (subst Explains (same_others r) rest_now);
      }

  -- a new transaction has no changes
  own_begun : (lsn t : ℕ) → records_of rs t ≡ [] → own (rs ++ Begin lsn t ∷ []) page slot t ≡ []
  own_begun lsn t none =
      own_push rs (Begin lsn t) page slot ∙ ap (λ xs. changes_on page slot (pending_from [] xs)) none

  same_changes : (lsn t : ℕ) → has_begun rs t ≡ false → records_of rs t ≡ []
      → flat_map mine (open_in rs)
      ≡ flat_map (own (rs ++ Begin lsn t ∷ []) page slot) (open_in (rs ++ Begin lsn t ∷ []))
  same_changes lsn t new none =
      let r = Begin lsn t in
      let now = own (rs ++ r ∷ []) page slot in
      let unchanged = λ (o : ℕ) (other : o ≢ t). own_push_other rs r page slot o (λ same. other (sym same)) in
      let away = not_among (is_open rs) t (and_left (has_begun rs t) _ new) (begun rs) in
      sym
      (ap (flat_map now) (open_in_push_begin rs lsn t none new) ∙ flat_map-append now (open_in rs) (t ∷ [])
      ∙ ap (λ cs. flat_map now (open_in rs) ++ (cs ++ [])) (own_begun lsn t none)
      ∙ append-nil (flat_map now (open_in rs)) ∙ flat_map_agree_but t now mine unchanged (open_in rs) away)

  pub accounts_begun : (lsn t : ℕ) → has_begun rs t ≡ false → records_of rs t ≡ []
      → committed (rs ++ Begin lsn t ∷ []) page slot ≡ committed rs page slot
      → number_in (rs ++ Begin lsn t ∷ []) page slot ≡ number_in rs page slot
      → Accounts (rs ++ Begin lsn t ∷ []) page slot
  accounts_begun lsn t new none same_committed same_number =
      let changes = flat_map mine (open_in rs) in
      let leads = subst₂ (Leads changes) (sym same_committed) (sym same_number) known.leads in
      record {
        fits = subst (λ n. n < 2 ^ 64) (sym same_committed) known.fits;
        apart = apart_push rs (Begin lsn t) page slot known.apart (λ u other still_u still_t.
            subst (All (AddsWith (mine u))) (sym (own_begun lsn t none)) (All-nil (AddsWith (mine u))));
        leads = subst (Explain (rs ++ Begin lsn t ∷ []) page slot) (same_changes lsn t new none) leads;
      }

  -- a record of no transaction
  pub accounts_aside : (r : Record) → begun_by r ≡ None → is_last r ≡ false → txn_of r ≡ 0
      → committed (rs ++ r ∷ []) page slot ≡ committed rs page slot
      → number_in (rs ++ r ∷ []) page slot ≡ number_in rs page slot
      → Accounts (rs ++ r ∷ []) page slot
  accounts_aside r none more no_txn same_committed same_number =
      let t = txn_of r in
      let now = own (rs ++ r ∷ []) page slot in
      let closed : is_open rs t ≡ false = ap (is_open rs) no_txn ∙ zero_not_open rs linked in
      let still_closed = is_open_push_own rs r t none refl ∙ ap (λ b. b && not (is_last r)) closed in
      let unchanged = λ (o : ℕ) (other : o ≢ t). own_push_other rs r page slot o (λ same. other (sym same)) in
      let away = not_among (is_open rs) t closed (begun rs) in
      let same = sym (ap (flat_map now) (open_in_push_same rs r none more)
      ∙ flat_map_agree_but t now mine unchanged (open_in rs) away) in
      let leads = subst₂ (Leads (flat_map mine (open_in rs))) (sym same_committed) (sym same_number) known.leads in
      record {
        fits = subst (λ n. n < 2 ^ 64) (sym same_committed) known.fits;
        apart = apart_push rs r page slot known.apart (λ u other still_u still_t.
            absurd (true≢false (sym still_t ∙ still_closed)));
        leads = subst (Explain (rs ++ r ∷ []) page slot) same leads;
      }
