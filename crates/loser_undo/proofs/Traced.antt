-- What the records of an open transaction tell of it, from its last one back.
use Rattle.std.proofs.Common.{◌≡◌, ℕ, ◌-◌, ◌<◌, Bool, true, ◌&&◌, ◌||◌, not, List, [], ◌∷◌, ◌++◌}
use Rattle.std.proofs.Common.{append_assoc, get_or, length, map, sym, refl, ap, subst, subst₂, ◌∙◌, inl, inr, arith, true≢false}
use Rattle.std.specs.Prelude.{Option, Some, None, IsSomeAnd, reverse}
use Rattle.std.specs.List.{cons_option, filter_map}
use Rattle.std.specs.Option.{option_to_list}
use Rattle.std.proofs.lemmas.Bool.{cases_eq}
use Rattle.std.proofs.lemmas.List.{append-nil, get_or_append_left, get_or_push, length_push, map_push}
use Rattle.std.proofs.lemmas.Option.{same_Some, slice_get-get_or}
use Rattle.std.proofs.Math.Bool.{and-false, or-false, or-true}
use Rattle.std.proofs.lemmas.List.{reverse-append}
use mathlib.Core.List.{reverse-cons}
use Rattle.log_records.specs.declared.record.Record.{Record}
use Rattle.log_records.specs.declared.record.Record.TheVariants.{Begin, Update, Comp, Commit, Abort, End, BeginChkpt}
use Rattle.log_records.specs.declared.record.Record.TheVariants.{ChkptPages, ChkptTxns, EndChkpt, Extend}
use Rattle.page_core.specs.declared.change.Change.{Change}
use Rattle.log_records.specs.Log.{IsLog, Log, StandsAt, lsn_of}
use Rattle.log_records.specs.Record.{own_lsn}
use Rattle.log_rules.specs.declared.pending_change.PendingChange.{PendingChange}
use Rattle.log_rules.specs.Linked.{Compensates, GoesOn, IsActive, IsLinked, MayFollow}
use Rattle.log_rules.specs.Table.{TxnEntry, entry_of}
use Rattle.log_rules.specs.Transactions.{begun_by, first_lsn, is_abort, is_last, is_open, is_rolling}
use Rattle.log_rules.specs.Transactions.{last_lsn, last_of, pending, records_of, txn_of, with_pending, without_last}
use Rattle.log_rules.proofs.Public.{next_is_new, none_before_begin, open_has_begun, some_from_begin, zero_not_open}
use Rattle.log_rules.proofs.Public.{along_linked, linked_push}
use Rattle.log_rules.proofs.Public.{first_lsn_push, is_open_push_other, is_open_push_own}
use Rattle.log_rules.proofs.Public.{is_rolling_push, last_lsn_push, pending_push, records_of_push_own}
use Rattle.log_rules.proofs.Public.{entry_from, entry_of_push_other}
use Rattle.loser_undo.specs.Losers.{IsTraced, Leads, LeadsToAbort, StandsAtLsn, before_comp, change_by, way_back}
use Rattle.loser_undo.proofs.Lost.{last_apart}
use Rattle.loser_undo.proofs.Rising.{ArePlaced, log_placed}
use Rattle.log_records.proofs.Public.{stands_in}
use Rattle.log_records.specs.Log.{page_count}

-- ---- records that stand

pub still_stands : (rs : List Record) (r x : Record) (at : ℕ) → StandsAtLsn rs at x → StandsAtLsn (rs ++ r ∷ []) at x
still_stands rs r x at stands =
    let lt = stands.within in
    record {
      place = stands.place;
      within = omega (arith, lt, length_push rs r);
      at_is = stands.at_is;
      is = λ d. get_or_append_left rs (r ∷ []) d stands.place lt ∙ stands.is d;
    }

pub new_stands : (rs : List Record) (r : Record) (at : ℕ) → at ≡ lsn_of (length rs) → StandsAtLsn (rs ++ r ∷ []) at r
new_stands rs r at is = record {
  place = length rs;
  within = omega (arith, length_push rs r);
  at_is = is;
  is = λ d. get_or_push rs r d (length rs) refl;
}

-- one record stands at an LSN
pub stands_one : (rs : List Record) (at : ℕ) (x y : Record) → StandsAtLsn rs at x → StandsAtLsn rs at y → x ≡ y
stands_one rs at x y sx sy =
    let same : sx.place ≡ sy.place = omega (arith, sx.at_is, sy.at_is) in
    sym (sx.is x) ∙ ap (λ n. get_or rs n x) same ∙ sy.is x

pub still_leads : (rs : List Record) (r : Record) (t first at : ℕ) (way : List Record) → Leads rs t first at way
    → Leads (rs ++ r ∷ []) t first at way
still_leads rs r t first at [] leads = (leads.0, still_stands rs r (Begin at t) at leads.1)
still_leads rs r t first at (x ∷ more) leads =
    (still_stands rs r x at leads.0, (leads.1.0, (leads.1.1.0, still_leads rs r t first leads.1.0 more leads.1.1.1)))

still_to_abort : (rs : List Record) (r : Record) (b : Bool) (at : ℕ) (comps : List ℕ) → LeadsToAbort rs b at comps
    → LeadsToAbort (rs ++ r ∷ []) b at comps
still_to_abort rs r b at [] leads = (leads.0, still_stands rs r leads.0 at leads.1, leads.2, leads.3)
still_to_abort rs r b at (next ∷ more) leads =
    (leads.0, still_stands rs r leads.0 at leads.1, leads.2, still_to_abort rs r b next more leads.3)

still_traced : (rs : List Record) (r : Record) (e : TxnEntry) → IsTraced rs e → IsTraced (rs ++ r ∷ []) e
still_traced rs r e traced = record {
  way = traced.way;
  leads = still_leads rs r e.txn e.first e.last traced.way traced.leads;
  pending = traced.pending;
  comps = traced.comps;
  rolling = still_to_abort rs r e.rolling e.last traced.comps traced.rolling;
}

-- ---- one record more

-- an open transaction with one record more
with_own : (rs : List Record) (r : Record) (t : ℕ) → txn_of r ≡ t → is_open rs t ≡ true
    → entry_of (rs ++ r ∷ []) t ≡ record {
      txn = t;
      first = first_lsn rs t;
      last = own_lsn r;
      rolling = is_rolling rs t || is_abort r;
      pending = with_pending (pending rs t) r;
    }
with_own rs r t same still =
    let some = some_from_begin rs t (open_has_begun rs t still) in
    λ i. record {
      txn = t;
      first = first_lsn_push rs r t same some i;
      last = last_lsn_push rs r t same i;
      rolling = is_rolling_push rs r t same i;
      pending = pending_push rs r t same i;
    }

reverse_push : (ps : List PendingChange) (p : PendingChange) → reverse (ps ++ p ∷ []) ≡ p ∷ reverse ps
reverse_push ps p = reverse-append ps (p ∷ [])

-- the last of what is pending, if something is
record IsLastOf (ps : List PendingChange) (P : PendingChange → Type 0) : Type 0 where
  p : PendingChange
  apart : ps ≡ without_last ps ++ p ∷ []
  has : P p

last_is : (ps : List PendingChange) (P : PendingChange → Type 0) → IsSomeAnd (last_of ps) P → IsLastOf ps P
last_is [] P has = absurd has
last_is (x ∷ xs) P has =
    let i = length (x ∷ xs) - 1 in
    let lt : i < length (x ∷ xs) = omega arith in
    record {
      p = get_or (x ∷ xs) i x;
      apart = last_apart x xs;
      has = subst (λ o. IsSomeAnd o P) (slice_get-get_or (x ∷ xs) i x lt) has;
    }

-- the search goes on from an Update where its change had its PrevLSN
change_leads : (r : Record) (c : PendingChange) → change_by r ≡ Some c → way_back r ≡ Some c.prev
change_leads (Update lsn t prev page slot change) c is = ap (λ (o : Option PendingChange). prev_in o) is
  where
    prev_in : Option PendingChange → Option ℕ
    prev_in None = None
    prev_in (Some c) = Some c.prev
change_leads (Begin lsn t) c is = cc
change_leads (Comp lsn t prev undo_next page slot change) c is = cc
change_leads (Commit lsn t prev) c is = cc
change_leads (Abort lsn t prev) c is = cc
change_leads (End lsn t prev) c is = cc
change_leads (BeginChkpt lsn) c is = cc
change_leads (ChkptPages lsn begin pages) c is = cc
change_leads (ChkptTxns lsn begin u state last undo) c is = cc
change_leads (EndChkpt lsn begin redo) c is = cc
change_leads (Extend lsn pages) c is = cc

-- the search from behind the Update of the change that it meets first
record IsBehind (rs : List Record) (t first : ℕ) (p : PendingChange) (ps : List PendingChange) : Type 0 where
  way : List Record
  leads : Leads rs t first p.prev way
  changes : filter_map change_by way ≡ ps

behind_first : (rs : List Record) (t first at : ℕ) (way : List Record) (p : PendingChange) (ps : List PendingChange)
    → Leads rs t first at way → filter_map change_by way ≡ p ∷ ps → IsBehind rs t first p ps
behind_first rs t first at [] p ps leads changes = cc
behind_first rs t first at (r ∷ more) p ps leads changes =
    by (change_by r) refl changes (λ rest. behind_first rs t first leads.1.0 more p ps leads.1.1.1 rest)
  where
    by : (o : Option PendingChange) → change_by r ≡ o → cons_option o (filter_map change_by more) ≡ p ∷ ps
        → (filter_map change_by more ≡ p ∷ ps → IsBehind rs t first p ps) → IsBehind rs t first p ps
    by None none changes rest = rest changes
    by (Some c) is changes rest =
        let same : c ≡ p = cc in
        let next : leads.1.0 ≡ p.prev =
        same_Some _ _ (sym leads.1.1.0 ∙ change_leads r c is) ∙ ap (λ (x : PendingChange). x.prev) same in
        record {
          way = more;
          leads = subst (λ n. Leads rs t first n more) next leads.1.1.1;
          changes = cc;
        }

update_traced : (rs : List Record) (lsn t prev page slot : ℕ) (change : Change) → lsn ≡ lsn_of (length rs)
    → IsActive rs t prev → IsTraced rs (entry_of rs t)
    → IsTraced (rs ++ Update lsn t prev page slot change ∷ []) (entry_of (rs ++ Update lsn t prev page slot change ∷ []) t)
update_traced rs lsn t prev page slot change at active traced =
    let r = Update lsn t prev page slot change in
    let p : PendingChange = record { lsn = lsn; prev = prev; page = page; slot = slot; change = change } in
    let here = new_stands rs r lsn at in
    subst (IsTraced (rs ++ r ∷ [])) (sym (with_own rs r t refl active.goes_on.still_open)) (record {
      way = r ∷ traced.way;
      leads = (
        here,
        (
          last_lsn rs t,
          (
            ap Some active.goes_on.chained,
            still_leads rs r t (first_lsn rs t) (last_lsn rs t) traced.way traced.leads,
          ),
        ),
      );
      pending = ap (λ qs. p ∷ qs) traced.pending ∙ sym (reverse_push (pending rs t) p);
      comps = [];
      rolling = (r, here, refl, sym (or-false (is_rolling rs t) ∙ active.active));
    })

comp_traced : (rs : List Record) (lsn t prev undo_next page slot : ℕ) (change : Change) → lsn ≡ lsn_of (length rs)
    → GoesOn rs t prev → IsSomeAnd (last_of (pending rs t)) (Compensates undo_next page slot change)
    → IsTraced rs (entry_of rs t)
    → IsTraced (rs ++ Comp lsn t prev undo_next page slot change ∷ [])
    (entry_of (rs ++ Comp lsn t prev undo_next page slot change ∷ []) t)
comp_traced rs lsn t prev undo_next page slot change at goes_on last traced =
    let r = Comp lsn t prev undo_next page slot change in
    let here = new_stands rs r lsn at in
    let ps = pending rs t in
    let found = last_is ps (Compensates undo_next page slot change) last in
    let rest = behind_first rs t (first_lsn rs t) (last_lsn rs t) traced.way found.p (reverse (without_last ps))
    traced.leads (traced.pending ∙ ap reverse found.apart ∙ reverse_push (without_last ps) found.p) in
    subst (IsTraced (rs ++ r ∷ [])) (sym (with_own rs r t refl goes_on.still_open)) (record {
      way = r ∷ rest.way;
      leads = (
        here,
        (
          found.p.prev,
          (
            ap Some found.has.next,
            still_leads rs r t (first_lsn rs t) found.p.prev rest.way rest.leads,
          ),
        ),
      );
      pending = rest.changes;
      comps = last_lsn rs t ∷ traced.comps;
      rolling = (
        r,
        here,
        ap Some goes_on.chained,
        subst (λ b. LeadsToAbort (rs ++ r ∷ []) b (last_lsn rs t) traced.comps) (sym (or-false (is_rolling rs t)))
            (still_to_abort rs r (is_rolling rs t) (last_lsn rs t) traced.comps traced.rolling),
      );
    })

abort_traced : (rs : List Record) (lsn t prev : ℕ) → lsn ≡ lsn_of (length rs) → IsActive rs t prev
    → IsTraced rs (entry_of rs t)
    → IsTraced (rs ++ Abort lsn t prev ∷ []) (entry_of (rs ++ Abort lsn t prev ∷ []) t)
abort_traced rs lsn t prev at active traced =
    let r = Abort lsn t prev in
    let here = new_stands rs r lsn at in
    subst (IsTraced (rs ++ r ∷ [])) (sym (with_own rs r t refl active.goes_on.still_open)) (record {
      way = r ∷ traced.way;
      leads = (
        here,
        (
          last_lsn rs t,
          (
            ap Some active.goes_on.chained,
            still_leads rs r t (first_lsn rs t) (last_lsn rs t) traced.way traced.leads,
          ),
        ),
      );
      pending = traced.pending;
      comps = [];
      rolling = (r, here, refl, sym (or-true (is_rolling rs t)));
    })

begin_traced : (rs : List Record) (lsn t : ℕ) → lsn ≡ lsn_of (length rs) → records_of rs t ≡ []
    → IsTraced (rs ++ Begin lsn t ∷ []) (entry_of (rs ++ Begin lsn t ∷ []) t)
begin_traced rs lsn t at none =
    let r = Begin lsn t in
    let here = new_stands rs r lsn at in
    let alone = records_of_push_own rs r t refl ∙ ap (λ xs. xs ++ r ∷ []) none in
    subst (λ xs. IsTraced (rs ++ r ∷ []) (entry_from t xs)) (sym alone) (record {
      way = [];
      leads = (refl, here);
      pending = refl;
      comps = [];
      rolling = (r, here, refl, refl);
    })

-- ---- all of them

abbrev pub AreTraced : List Record → Type 0
AreTraced rs = ArePlaced rs → (t : ℕ) → is_open rs t ≡ true → IsTraced rs (entry_of rs t)

pub placed_front : (rs : List Record) (r : Record) → ArePlaced (rs ++ r ∷ []) → ArePlaced rs
placed_front rs r placed i d lt =
    sym (ap own_lsn (get_or_append_left rs (r ∷ []) d i lt)) ∙ placed i d (omega (arith, length_push rs r))

placed_last : (rs : List Record) (r : Record) → ArePlaced (rs ++ r ∷ []) → own_lsn r ≡ lsn_of (length rs)
placed_last rs r placed =
    sym (ap own_lsn (get_or_push rs r r (length rs) refl)) ∙ placed (length rs) r (omega (arith, length_push rs r))

-- a record that ends its transaction, or is of none, is not the last one of an open transaction
ended_own : (rs : List Record) (r : Record) → begun_by r ≡ None → is_last r ≡ true
    → is_open (rs ++ r ∷ []) (txn_of r) ≡ true → ⊥
ended_own rs r none last still =
    true≢false (sym still ∙ is_open_push_own rs r (txn_of r) none refl ∙ ap (λ b. is_open rs (txn_of r) && not b) last
    ∙ and-false (is_open rs (txn_of r)))

pub aside_own : (rs : List Record) (r : Record) → IsLinked rs → MayFollow rs r → txn_of r ≡ 0
    → is_open (rs ++ r ∷ []) (txn_of r) ≡ true → ⊥
aside_own rs r linked may none still =
    true≢false (sym still ∙ ap (is_open (rs ++ r ∷ [])) none ∙ zero_not_open (rs ++ r ∷ []) (linked_push rs r linked may))

own_traced : (rs : List Record) (r : Record) → IsLinked rs → MayFollow rs r → ArePlaced rs
    → own_lsn r ≡ lsn_of (length rs) → AreTraced rs → is_open (rs ++ r ∷ []) (txn_of r) ≡ true
    → IsTraced (rs ++ r ∷ []) (entry_of (rs ++ r ∷ []) (txn_of r))
own_traced rs (Begin lsn t) linked may placed at before still =
    let next = may.next in
    let new = next_is_new rs linked t (omega arith) in
    begin_traced rs lsn t at (none_before_begin rs linked t (omega arith) new)
own_traced rs (Update lsn t prev page slot change) linked may placed at before still =
    update_traced rs lsn t prev page slot change at may.active
    (before placed t may.active.goes_on.still_open)
own_traced rs (Comp lsn t prev undo_next page slot change) linked may placed at before still =
    comp_traced rs lsn t prev undo_next page slot change at may.0 may.1 (before placed t may.0.still_open)
own_traced rs (Abort lsn t prev) linked may placed at before still =
    abort_traced rs lsn t prev at may (before placed t may.goes_on.still_open)
own_traced rs (Commit lsn t prev) linked may placed at before still =
    absurd (ended_own rs (Commit lsn t prev) refl refl still)
own_traced rs (End lsn t prev) linked may placed at before still =
    absurd (ended_own rs (End lsn t prev) refl refl still)
own_traced rs (BeginChkpt lsn) linked may placed at before still =
    absurd (aside_own rs (BeginChkpt lsn) linked may refl still)
own_traced rs (ChkptPages lsn begin pages) linked may placed at before still =
    absurd (aside_own rs (ChkptPages lsn begin pages) linked may refl still)
own_traced rs (ChkptTxns lsn begin t state last undo) linked may placed at before still =
    absurd (aside_own rs (ChkptTxns lsn begin t state last undo) linked may refl still)
own_traced rs (EndChkpt lsn begin redo) linked may placed at before still =
    absurd (aside_own rs (EndChkpt lsn begin redo) linked may refl still)
own_traced rs (Extend lsn pages) linked may placed at before still =
    absurd (aside_own rs (Extend lsn pages) linked may refl still)

traced_more : (rs : List Record) (r : Record) → IsLinked rs → MayFollow rs r → AreTraced rs → AreTraced (rs ++ r ∷ [])
traced_more rs r linked may before placed t still =
    let front = placed_front rs r placed in
    elim (cases_eq (txn_of r) t) [
      | inl same ↦
          subst (λ n. IsTraced (rs ++ r ∷ []) (entry_of (rs ++ r ∷ []) n)) same
          (own_traced rs r linked may front (placed_last rs r placed) before
          (subst (λ n. is_open (rs ++ r ∷ []) n ≡ true) (sym same) still))
      | inr other ↦
          subst (IsTraced (rs ++ r ∷ [])) (sym (entry_of_push_other rs r t other))
          (still_traced rs r (entry_of rs t) (before front t (sym (is_open_push_other rs r t other) ∙ still)))
    ]

pub traced_of : (rs : List Record) → IsLinked rs → AreTraced rs
traced_of = along_linked AreTraced (λ placed n none. absurd (true≢false (sym none))) traced_more

-- the records of a linked log trace its open transactions
pub all_traced : (log : Log) (t : ℕ) → IsLog log → IsLinked log.records → is_open log.records t ≡ true
    → IsTraced log.records (entry_of log.records t)
all_traced log t valid linked still = traced_of log.records linked (log_placed log valid) t still

-- ---- the pending changes, the last one first

pub stands_at : (log : Log) (at : ℕ) (r : Record) → IsLog log → StandsAtLsn log.records at r → StandsAt (page_count log) at r
stands_at log at r valid stands =
    subst₂ (StandsAt (page_count log)) (sym stands.at_is) (stands.is r) (stands_in log valid stands.place r stands.within)

-- some record stands where the search goes on
pub leads_stands : (rs : List Record) (t first at : ℕ) (way : List Record) → Leads rs t first at way
    → (r : Record) × StandsAtLsn rs at r
leads_stands rs t first at [] leads = (Begin at t, leads.1)
leads_stands rs t first at (r ∷ more) leads = (r, leads.0)

-- these were found, and those that the rest of the way has come behind them
pub record IsFound (rs : List Record) (t first at : ℕ) (found all : List PendingChange) : Type 0 where
  pub way : List Record
  pub leads : Leads rs t first at way
  pub split : all ≡ found ++ filter_map change_by way

cons_is_append : (o : Option PendingChange) (ps : List PendingChange) → cons_option o ps ≡ option_to_list o ++ ps
cons_is_append None ps = refl
cons_is_append (Some p) ps = refl

pub found_more : (rs : List Record) (t first at next : ℕ) (found all : List PendingChange) (x : Record)
    → IsFound rs t first at found all → ((r : Record) → StandsAtLsn rs at r → x ≡ r) → way_back x ≡ Some next
    → IsFound rs t first next (found ++ option_to_list (change_by x)) all
found_more rs t first at next found all x so_far is goes = by so_far.way so_far.leads so_far.split
  where
    by : (way : List Record) → Leads rs t first at way → all ≡ found ++ filter_map change_by way
        → IsFound rs t first next (found ++ option_to_list (change_by x)) all
    by [] leads split = let same = sym (ap way_back (is (Begin at t) leads.1)) ∙ goes in cc
    by (r ∷ more) leads split =
        let same = is r leads.0 in
        let on : leads.1.0 ≡ next = same_Some _ _ (sym leads.1.1.0 ∙ sym (ap way_back same) ∙ goes) in
        let rest = filter_map change_by more in
        record {
          way = more;
          leads = subst (λ n. Leads rs t first n more) on leads.1.1.1;
          split = split ∙ ap (λ qs. found ++ qs) (cons_is_append (change_by r) rest)
              ∙ ap (λ o. found ++ (option_to_list o ++ rest)) (sym (ap change_by same))
              ∙ sym (append_assoc found (option_to_list (change_by x)) rest);
        }

pub found_all : (rs : List Record) (t first at : ℕ) (found all : List PendingChange) (x : Record)
    → IsFound rs t first at found all → ((r : Record) → StandsAtLsn rs at r → x ≡ r) → way_back x ≡ None
    → (at ≡ first) × (all ≡ found)
found_all rs t first at found all x so_far is ends = by so_far.way so_far.leads so_far.split
  where
    by : (way : List Record) → Leads rs t first at way → all ≡ found ++ filter_map change_by way
        → (at ≡ first) × (all ≡ found)
    by [] leads split = (leads.0, split ∙ append-nil found)
    by (r ∷ more) leads split = let same = sym ends ∙ ap way_back (is r leads.0) ∙ leads.1.1.0 in cc

-- the search goes back
goes_earlier : (pages at next : ℕ) (x : Record) → StandsAt pages at x → way_back x ≡ Some next → next < at
goes_earlier pages at next (Update lsn u prev page slot change) stands goes =
    let lt = stands.valid.2.earlier in
    let here = stands.lsn in
    let same : prev ≡ next = same_Some _ _ goes in omega arith
goes_earlier pages at next (Comp lsn u prev undo_next page slot change) stands goes =
    let lt = stands.valid.4.earlier in
    let here = stands.lsn in
    let same : undo_next ≡ next = same_Some _ _ goes in omega arith
goes_earlier pages at next (Abort lsn u prev) stands goes =
    let lt = stands.valid.2.earlier in
    let here = stands.lsn in
    let same : prev ≡ next = same_Some _ _ goes in omega arith
goes_earlier pages at next (Begin lsn u) stands goes = cc
goes_earlier pages at next (Commit lsn u prev) stands goes = cc
goes_earlier pages at next (End lsn u prev) stands goes = cc
goes_earlier pages at next (BeginChkpt lsn) stands goes = cc
goes_earlier pages at next (ChkptPages lsn begin pages_found) stands goes = cc
goes_earlier pages at next (ChkptTxns lsn begin u state last undo) stands goes = cc
goes_earlier pages at next (EndChkpt lsn begin redo) stands goes = cc
goes_earlier pages at next (Extend lsn count) stands goes = cc

pub next_earlier : (log : Log) (at next : ℕ) (x : Record) → IsLog log → (r : Record) × StandsAtLsn log.records at r
    → ((r : Record) → StandsAtLsn log.records at r → x ≡ r) → way_back x ≡ Some next → next < at
next_earlier log at next x valid there is goes =
    goes_earlier (page_count log) at next x
    (subst (StandsAt (page_count log) at) (sym (is there.0 there.1)) (stands_at log at there.0 valid there.1)) goes

-- ---- the Abort

pub to_abort_stands : (rs : List Record) (b : Bool) (at : ℕ) (comps : List ℕ) → LeadsToAbort rs b at comps
    → (r : Record) × StandsAtLsn rs at r
to_abort_stands rs b at [] leads = (leads.0, leads.1)
to_abort_stands rs b at (next ∷ more) leads = (leads.0, leads.1)

comp_goes_earlier : (pages at prev : ℕ) (x : Record) → StandsAt pages at x → before_comp x ≡ Some prev → prev < at
comp_goes_earlier pages at prev (Comp lsn u p undo_next page slot change) stands comp =
    let lt = stands.valid.2.earlier in
    let here = stands.lsn in
    let same : p ≡ prev = same_Some _ _ comp in omega arith
comp_goes_earlier pages at prev (Begin lsn u) stands comp = cc
comp_goes_earlier pages at prev (Update lsn u p page slot change) stands comp = cc
comp_goes_earlier pages at prev (Commit lsn u p) stands comp = cc
comp_goes_earlier pages at prev (Abort lsn u p) stands comp = cc
comp_goes_earlier pages at prev (End lsn u p) stands comp = cc
comp_goes_earlier pages at prev (BeginChkpt lsn) stands comp = cc
comp_goes_earlier pages at prev (ChkptPages lsn begin pages_found) stands comp = cc
comp_goes_earlier pages at prev (ChkptTxns lsn begin u state last undo) stands comp = cc
comp_goes_earlier pages at prev (EndChkpt lsn begin redo) stands comp = cc
comp_goes_earlier pages at prev (Extend lsn count) stands comp = cc

pub comp_earlier : (log : Log) (at prev : ℕ) (x : Record) → IsLog log → (r : Record) × StandsAtLsn log.records at r
    → ((r : Record) → StandsAtLsn log.records at r → x ≡ r) → before_comp x ≡ Some prev → prev < at
comp_earlier log at prev x valid there is comp =
    comp_goes_earlier (page_count log) at prev x
    (subst (StandsAt (page_count log) at) (sym (is there.0 there.1)) (stands_at log at there.0 valid there.1)) comp

pub to_abort_more : (rs : List Record) (b : Bool) (at prev : ℕ) (comps : List ℕ) (x : Record) → LeadsToAbort rs b at comps
    → ((r : Record) → StandsAtLsn rs at r → x ≡ r) → before_comp x ≡ Some prev
    → (more : List ℕ) × LeadsToAbort rs b prev more
to_abort_more rs b at prev [] x leads is comp =
    let same = sym comp ∙ ap before_comp (is leads.0 leads.1) ∙ leads.2 in cc
to_abort_more rs b at prev (next ∷ more) x leads is comp =
    let same : next ≡ prev = same_Some _ _ (sym leads.2 ∙ sym (ap before_comp (is leads.0 leads.1)) ∙ comp) in
    (more, subst (λ n. LeadsToAbort rs b n more) same leads.3)

pub to_abort_end : (rs : List Record) (b : Bool) (at : ℕ) (comps : List ℕ) (x : Record) → LeadsToAbort rs b at comps
    → ((r : Record) → StandsAtLsn rs at r → x ≡ r) → before_comp x ≡ None → is_abort x ≡ b
to_abort_end rs b at [] x leads is none = ap is_abort (is leads.0 leads.1) ∙ leads.3
to_abort_end rs b at (next ∷ more) x leads is none =
    let same = sym none ∙ ap before_comp (is leads.0 leads.1) ∙ leads.2 in cc

-- ---- the oldest first

pub map_reverse : {X Y : Type 0} (f : X → Y) (xs : List X) → map f (reverse xs) ≡ reverse (map f xs)
map_reverse f [] = refl
map_reverse f (x ∷ xs) =
    ap (map f) (reverse-cons x xs) ∙ map_push f (reverse xs) x ∙ ap (λ ys. ys ++ f x ∷ []) (map_reverse f xs)
    ∙ sym (reverse-cons (f x) (map f xs))
