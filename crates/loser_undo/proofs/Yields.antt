-- One record of undo more.
use Rattle.std.proofs.Common.{◌≡◌, ◌∙◌, ℕ, suc, zero, ◌+◌, ◌-◌, ◌<◌, ◌≤◌, ◌||◌, Bool, true, false, cond, eqb, List, [], ◌∷◌, ◌++◌}
use Rattle.std.proofs.Common.{length, ap, ap₂, append_assoc, arith, drop, get_or, inl, inr, map, refl, set, slice_get}
use Rattle.std.proofs.Common.{subst, sym, eqb-true, ne_eqb, not}
use Rattle.std.specs.Prelude.{Option, Some, None, IsSome, IsSomeAnd, MatchOption, reverse}
use Rattle.std.specs.List.{All, filter, filter_map, list_any, remove}
use Rattle.std.specs.Option.{option_and_then, option_map}
use Rattle.std.proofs.Math.Seq.{drop-append_seam}
use Rattle.std.proofs.lemmas.Bool.{cases_eq}
use Rattle.std.proofs.lemmas.List.{length_push, reverse-reverse}
use Rattle.std.proofs.lemmas.List.Elements.{All-get_or, All-head, filter_passes}
use Rattle.std.proofs.lemmas.Map.Views.{any-filter_same}
use Rattle.std.proofs.lemmas.Option.{get_or_from_slice_get, same_Some, slice_get-get_or, slice_get-map, slice_get_within}
use Rattle.page_core.specs.Change.{undo_of}
use Rattle.log_records.specs.declared.limits.TheConstants.{MAX_OPEN, MAX_RECORDS}
use Rattle.log_records.specs.declared.record.Record.{Record}
use Rattle.log_records.specs.declared.record.Record.TheVariants.{Comp, End}
use Rattle.log_records.specs.Log.{IsLog, Log, StandsAt, lsn_of, with_next}
use Rattle.log_rules.specs.declared.pending_change.PendingChange.{PendingChange}
use Rattle.txn_table.specs.declared.txn_state.TxnState.{TxnState}
use Rattle.log_rules.specs.Linked.{IsLinked, MayFollow}
use Rattle.log_rules.specs.Table.{TxnEntry, compensated, entry_of}
use Rattle.log_rules.specs.Transactions.{begun, is_open, last_lsn, last_of, open_in, owed, pending}
use Rattle.txn_table.specs.TxnState.{state_of}
use Rattle.log_rules.proofs.Public.{valid_next}
use Rattle.log_rules.proofs.Public.{open_has_begun}
use Rattle.log_rules.proofs.Public.{linked_push}
use Rattle.log_rules.proofs.Public.{needs}
use Rattle.loser_undo.specs.Losers.{AreLosersOf, losers_of}
use Rattle.loser_undo.specs.Recovery.{appended}
use Rattle.loser_undo.specs.Undo.{LostChange, after_undo, comp_of, end_of, is_undone, lost_by, lost_changes, spent}
use Rattle.loser_undo.specs.UndoRecords.{AreBusyBefore, HasYielded, IsLastLost, IsNext, UndoView}
use Rattle.loser_undo.proofs.Appends.{claims_no_more}
use Rattle.loser_undo.proofs.Falling.{lost_of_open}
use Rattle.loser_undo.proofs.Goes.{goes_comp, goes_end, goes_nowhere, last, other_below, still}
use Rattle.loser_undo.proofs.Held.{AreInOrder, changed, comp_of_losers, end_of_losers, few_losers, removed}
use Rattle.loser_undo.proofs.Lost.{changes_of, pending_is_lost}
use Rattle.loser_undo.proofs.Phases.{comp_follows, end_follows, rising_open}
use Rattle.loser_undo.proofs.Rising.{IsRising, log_placed, lsns_rise}
use Rattle.loser_undo.proofs.Valid.{comp_stands, end_stands}
use Rattle.log_records.specs.Log.{page_count}
use Rattle.log_records.specs.PageCount.{GivesMore}

-- ---- lists

last_none : (ps : List PendingChange) → last_of ps ≡ None → ps ≡ []
last_none [] none = refl
last_none (p ∷ ps) none =
    let some = slice_get-get_or (p ∷ ps) (length (p ∷ ps) - 1) p (omega arith) in
    let no : None ≡ Some (get_or (p ∷ ps) (length (p ∷ ps) - 1) p) = sym none ∙ some in
    absurd (cc)

-- the first of which a test holds
filter_first : (p : ℕ → Bool) (xs : List ℕ) (i t : ℕ) → slice_get xs i ≡ Some t → p t ≡ true
    → ((j y : ℕ) → j < i → slice_get xs j ≡ Some y → p y ≡ false)
    → filter p xs ≡ t ∷ filter p (drop (suc i) xs)
filter_first p [] i t is holds others = absurd (cc)
filter_first p (x ∷ xs) zero t is holds others =
    let same = same_Some x t is in
    ap (λ b. cond b (x ∷ filter p xs) (filter p xs)) (ap p same ∙ holds) ∙ ap (λ y. y ∷ filter p xs) same
filter_first p (x ∷ xs) (suc i) t is holds others =
    ap (λ b. cond b (x ∷ filter p xs) (filter p xs)) (others 0 x (omega arith) refl)
    ∙ filter_first p xs i t is holds (λ j y lt at. others (suc j) y (omega (arith, lt)) at)

filter_none : (p : ℕ → Bool) (xs : List ℕ) → ((j y : ℕ) → slice_get xs j ≡ Some y → p y ≡ false) → filter p xs ≡ []
filter_none p [] others = refl
filter_none p (x ∷ xs) others =
    ap (λ b. cond b (x ∷ filter p xs) (filter p xs)) (others 0 x refl)
    ∙ filter_none p xs (λ j y at. others (suc j) y at)

any_at : (t : ℕ) (ts : List ℕ) → list_any (λ n. eqb n t) ts ≡ true → (i : ℕ) × (slice_get ts i ≡ Some t)
any_at t [] has = absurd (cc)
any_at t (n ∷ ns) has = by (eqb n t) refl has (any_at t ns)
  where
    by : (b : Bool) → eqb n t ≡ b → (b || list_any (λ m. eqb m t) ns) ≡ true
        → (list_any (λ m. eqb m t) ns ≡ true → (i : ℕ) × (slice_get ns i ≡ Some t))
        → (i : ℕ) × (slice_get (n ∷ ns) i ≡ Some t)
    by true same has rest = (0, ap Some (eqb-true n t same))
    by false other has rest = let found = rest has in (suc found.0, found.1)

numbers_of : (rs : List Record) (ts : List ℕ) → map (λ (e : TxnEntry). e.txn) (map (entry_of rs) ts) ≡ ts
numbers_of rs [] = refl
numbers_of rs (t ∷ ts) = ap (λ ns. t ∷ ns) (numbers_of rs ts)

-- something is pending, so it is not undone
busy : (ps : List PendingChange) → IsSome (last_of ps) → eqb (length ps) 0 ≡ false
busy [] some = absurd (cc)
busy (p ∷ ps) some = ne_eqb (length (p ∷ ps)) 0 (omega arith)

some_from : (o : Option PendingChange) (P : PendingChange → Type 0) → IsSomeAnd o P → IsSome o
some_from None P some = absurd some
some_from (Some p) P some = refl

-- what is read of the transaction of which the next record is
pub record IsTurn (losers : List TxnEntry) (place : ℕ) (e : TxnEntry) (state : TxnState) (o : Option PendingChange)
    : Type 0 where
  pub state_is : (f : TxnState → Record) → f state ≡ f (state_of e)
  pub last : last_of e.pending ≡ o
  pub turn : MatchOption o (AreBusyBefore losers place) (IsLastLost losers)

pub turn_is : (losers : List TxnEntry) (place : ℕ) (next : IsNext losers place) (state : TxnState)
    (o : Option PendingChange) → Some state ≡ option_map state_of (slice_get losers place)
    → o ≡ option_and_then (λ e. last_of e.pending) (slice_get losers place)
    → IsTurn losers place next.entry state o
turn_is losers place next state o found pending =
    let last : last_of next.entry.pending ≡ o =
    sym (pending ∙ ap (option_and_then (λ (e : TxnEntry). last_of e.pending)) next.there) in
    let same : state ≡ state_of next.entry =
    same_Some state (state_of next.entry) (found ∙ ap (option_map state_of) next.there) in
    record {
      state_is = λ f. ap f same;
      last = last;
      turn = subst (λ (p : Option PendingChange). MatchOption p (AreBusyBefore losers place) (IsLastLost losers)) last
          next.turn;
    }

pub record IsEntry (rs : List Record) (place : ℕ) (e : TxnEntry) : Type 0 where
  pub still : is_open rs e.txn ≡ true
  pub is : e ≡ entry_of rs e.txn
  pub listed : slice_get (open_in rs) place ≡ Some e.txn

module _ (log : Log) (behind : List Record) (undo : UndoView) (has : HasYielded log behind undo) where
  abbrev rs : List Record
  rs = log.records ++ behind

  abbrev whole : Log
  whole = with_next log behind

  linked : IsLinked rs
  linked = has.losers.linked

  in_order : AreInOrder undo.losers
  in_order =
      subst IsRising (sym (ap (map (λ (e : TxnEntry). e.txn)) has.losers.made ∙ numbers_of rs (open_in rs)))
      (rising_open rs linked)

  pub entry_at : (place : ℕ) (e : TxnEntry) → slice_get undo.losers place ≡ Some e → IsEntry rs place e
  entry_at place e there =
      by (slice_get (open_in rs) place) refl
      (sym (slice_get-map (entry_of rs) (open_in rs) place)
      ∙ ap (λ es. slice_get es place) (sym has.losers.made) ∙ there)
    where
      by : (o : Option ℕ) → slice_get (open_in rs) place ≡ o → option_map (entry_of rs) o ≡ Some e
          → IsEntry rs place e
      by None at is = absurd (cc)
      by (Some t) at is =
          let same = same_Some (entry_of rs t) e is in
          let number : t ≡ e.txn = ap (λ (x : TxnEntry). x.txn) same in
          let lt = slice_get_within (open_in rs) place t at in
          let all = All-get_or (λ n. is_open rs n ≡ true) (open_in rs) place t lt
          (filter_passes (is_open rs) (begun rs)) in
          record {
            still = ap (is_open rs) (sym number) ∙ ap (is_open rs) (sym (get_or_from_slice_get (open_in rs) place t t at))
                ∙ all;
            is = sym same ∙ ap (entry_of rs) number;
            listed = at ∙ ap Some number;
          }

  -- a record that may follow, and with which undo goes on to the same log
  grown : (r : Record) (new : UndoView) → MayFollow rs r → StandsAt (page_count whole) (lsn_of (length rs)) r
      → GivesMore (page_count whole) r → needs r ≡ 0
      → after_undo (rs ++ r ∷ []) ≡ after_undo rs → new.losers ≡ losers_of (rs ++ r ∷ [])
      → new.count ≡ undo.count + 1 → HasYielded log (behind ++ r ∷ []) new
  grown r new may stands gives none goes losers count =
      let more : rs ++ r ∷ [] ≡ log.records ++ (behind ++ r ∷ []) = append_assoc log.records behind (r ∷ []) in
      let room = has.room in
      let fits = has.fits in
      let few = claims_no_more rs r linked may none in
      let long = length_push rs r in
      record {
        valid = subst (λ (xs : List Record). IsLog (record log { records = xs })) more
            (valid_next whole r has.valid (omega (arith, room, fits, few, long)) stands gives);
        losers = subst (λ (xs : List Record). AreLosersOf xs new.losers) more (record {
          linked = linked_push rs r linked may;
          few = omega (arith, room, fits, few, long);
          made = losers;
        });
        count = count ∙ omega (arith, has.count, long, ap (length {A = Record}) more);
        room = subst (λ (xs : List Record). length xs + owed xs ≤ length log.records + owed log.records) more
            (omega (arith, room, few));
        fits = fits;
        goes_on = ap after_undo (sym more) ∙ goes ∙ has.goes_on;
      }

  abbrev lost_of : TxnEntry → PendingChange → LostChange
  lost_of e p = record { txn = e.txn; change = p }

  -- they are no more than may be open at once
  pub few_open : length undo.losers ≤ MAX_OPEN
  few_open = subst (λ (es : List TxnEntry). length es ≤ MAX_OPEN) (sym has.losers.made) (few_losers rs linked)

  -- there is room for a record of each open transaction
  pub has_room : (place : ℕ) (e : TxnEntry) → slice_get undo.losers place ≡ Some e → undo.count < MAX_RECORDS
  has_room place e there = by (last_of e.pending) refl
    where
      it : IsEntry rs place e
      it = entry_at place e there

      within : (r : Record) → MayFollow rs r → needs r ≡ 0 → undo.count < MAX_RECORDS
      within r may none =
          let room = has.room in
          let fits = has.fits in
          omega (arith, room, fits, claims_no_more rs r linked may none, length_push rs r, has.count)

      by : (o : Option PendingChange) → last_of e.pending ≡ o → undo.count < MAX_RECORDS
      by None none =
          within (end_of rs e.txn)
          (end_follows rs e.txn it.still (ap (λ (x : TxnEntry). x.pending) (sym it.is) ∙ last_none e.pending none)) refl
      by (Some p) final =
          within (comp_of rs (record { txn = e.txn; change = p }))
          (comp_follows rs (record { txn = e.txn; change = p }) it.still
          (ap (λ (x : TxnEntry). last_of x.pending) (sym it.is) ∙ final)) refl

  -- ---- an End

  pub yields_end : (place : ℕ) (e : TxnEntry) (r : Record) (new : UndoView) → slice_get undo.losers place ≡ Some e
      → last_of e.pending ≡ None → AreBusyBefore undo.losers place → r ≡ End (lsn_of undo.count) e.txn e.last
      → new ≡ record { losers = remove undo.losers place; count = undo.count + 1 }
      → HasYielded log (behind ++ r ∷ []) new
  yields_end place e r new there none first made left =
      let it = entry_at place e there in
      let t = e.txn in
      let idle : pending rs t ≡ [] = ap (λ (x : TxnEntry). x.pending) (sym it.is) ∙ last_none e.pending none in
      let is : r ≡ end_of rs t =
      made ∙ ap₂ (λ m n. End m t n) (ap lsn_of has.count) (ap (λ (x : TxnEntry). x.last) it.is) in
      let may = end_follows rs t it.still idle in
      let at = filter_first (is_undone rs) (open_in rs) place t it.listed
      (ap (λ (ps : List PendingChange). eqb (length ps) 0) idle)
      (λ j y lt listed. busy (pending rs y) (first j (entry_of rs y) lt
      (ap (λ es. slice_get es j) has.losers.made ∙ slice_get-map (entry_of rs) (open_in rs) j
      ∙ ap (option_map (entry_of rs)) listed))) in
      subst (λ (x : Record). HasYielded log (behind ++ x ∷ []) new) (sym is)
      (grown (end_of rs t) new may (end_stands whole t has.valid linked it.still) tt refl (goes_end rs t _ linked at)
      (ap (λ (v : UndoView). v.losers) left ∙ removed undo.losers place e in_order there
      ∙ ap (filter (λ (x : TxnEntry). not (eqb x.txn t))) has.losers.made
      ∙ sym (end_of_losers rs (end_of rs t) (lsn_of (length rs)) t (last_lsn rs t) linked may refl))
      (ap (λ (v : UndoView). v.count) left))

  -- ---- a compensation

  among : (t : ℕ) → is_open rs t ≡ true → list_any (λ n. eqb n t) (open_in rs) ≡ true
  among t live =
      any-filter_same (λ n. eqb n t) (is_open rs) true (λ n same. ap (is_open rs) (eqb-true n t same) ∙ live) (begun rs)
      ∙ open_has_begun rs t live

  listed_in : (t : ℕ) → is_open rs t ≡ true → (i : ℕ) × (slice_get undo.losers i ≡ Some (entry_of rs t))
  listed_in t live =
      let at = any_at t (open_in rs) (among t live) in (
        at.0,
        ap (λ es. slice_get es at.0) has.losers.made ∙ slice_get-map (entry_of rs) (open_in rs) at.0
            ∙ ap (option_map (entry_of rs)) at.1,
      )

  first_lost : (e : TxnEntry) (p : PendingChange) → is_open rs e.txn ≡ true → last_of (pending rs e.txn) ≡ Some p
      → IsLastLost undo.losers p → (ls : List LostChange) → lost_changes rs ≡ ls
      → (more : List LostChange) × (lost_changes rs ≡ lost_of e p ∷ more)
  first_lost e p live final greatest [] lost =
      let nothing : pending rs e.txn ≡ [] =
      pending_is_lost rs (lsns_rise whole has.valid) e.txn live
      ∙ ap (changes_of e.txn) (sym (reverse-reverse (filter_map (lost_by rs) rs))
      ∙ ap reverse lost) in
      let no : None ≡ Some p = sym (ap last_of nothing) ∙ final in
      absurd (cc)
  first_lost e p live final greatest (l ∷ ls) lost =
      let placed = log_placed whole has.valid in
      let opened = still rs l ls linked placed lost in
      let own = last rs l ls linked placed lost in
      let there = listed_in l.txn opened in
      let low : l.change.lsn ≤ p.lsn =
      by (last_of (pending rs l.txn)) own (greatest there.0 (entry_of rs l.txn) there.1) in
      elim (cases_eq l.txn e.txn) [
        | inl same ↦
            let one : l.change ≡ p =
            same_Some l.change p (sym own ∙ ap (λ (t : ℕ). last_of (pending rs t)) same ∙ final) in (
              ls,
              lost ∙ ap (λ (k : LostChange). k ∷ ls)
                  (ap₂ (λ (t : ℕ) (c : PendingChange). let k : LostChange = record { txn = t; change = c } in k) same one),
            )
        | inr other ↦
            let less = other_below rs l ls linked placed lost e.txn p other live final in
            absurd (omega (arith, less, low))
      ]
    where
      by : (o : Option PendingChange) → o ≡ Some l.change → IsSomeAnd o (λ q. q.lsn ≤ p.lsn) → l.change.lsn ≤ p.lsn
      by None is some = absurd some
      by (Some q) is some = subst (λ (x : PendingChange). x.lsn ≤ p.lsn) (same_Some q l.change is) some

  pub yields_comp : (place : ℕ) (e : TxnEntry) (p : PendingChange) (r : Record) (new : UndoView)
      → slice_get undo.losers place ≡ Some e → last_of e.pending ≡ Some p → IsLastLost undo.losers p
      → r ≡ Comp (lsn_of undo.count) e.txn e.last p.prev p.page p.slot (undo_of p.change)
      → new ≡ record {
        losers = set undo.losers place (compensated (lsn_of undo.count) (get_or undo.losers place e));
        count = undo.count + 1;
      } → HasYielded log (behind ++ r ∷ []) new
  yields_comp place e p r new there final greatest made left =
      let it = entry_at place e there in
      let t = e.txn in
      let l = lost_of e p in
      let last_is : last_of (pending rs t) ≡ Some p = ap (λ (x : TxnEntry). last_of x.pending) (sym it.is) ∙ final in
      let is : r ≡ comp_of rs l =
      made ∙ ap₂ (λ m n. Comp m t n p.prev p.page p.slot (undo_of p.change)) (ap lsn_of has.count)
      (ap (λ (x : TxnEntry). x.last) it.is) in
      let may = comp_follows rs l it.still last_is in
      let lost = first_lost e p it.still last_is greatest (lost_changes rs) refl in
      let none : spent rs ≡ [] =
      filter_none (is_undone rs) (open_in rs)
      (λ j y listed. busy (pending rs y) (some_from (last_of (pending rs y)) (λ q. q.lsn ≤ p.lsn)
      (greatest j (entry_of rs y) (ap (λ es. slice_get es j) has.losers.made
      ∙ slice_get-map (entry_of rs) (open_in rs) j ∙ ap (option_map (entry_of rs)) listed)))) in
      let lsn = ap lsn_of has.count in
      subst (λ (x : Record). HasYielded log (behind ++ x ∷ []) new) (sym is)
      (grown (comp_of rs l) new may (comp_stands whole l has.valid linked it.still last_is) tt refl
      (goes_comp rs l lost.0 linked (log_placed whole has.valid) lost.1 none)
      (ap (λ (v : UndoView). v.losers) left
      ∙ changed (compensated (lsn_of undo.count)) undo.losers place e e in_order there
      ∙ ap₂ (λ n es. map (λ (x : TxnEntry). cond (eqb x.txn t) (compensated n x) x) es) lsn has.losers.made
      ∙ sym (comp_of_losers rs (comp_of rs l) (lsn_of (length rs)) t (last_lsn rs t) p.prev p.page p.slot
      (undo_of p.change) linked may refl))
      (ap (λ (v : UndoView). v.count) left))

  -- ---- nothing

  no_entries : (ts : List ℕ) → map (entry_of rs) ts ≡ [] → ts ≡ []
  no_entries [] none = refl
  no_entries (t ∷ ts) none = absurd (cc)

  pub yields_none : undo.losers ≡ [] → behind ≡ appended log
  yields_none none =
      let shut : open_in rs ≡ [] = no_entries (open_in rs) (sym has.losers.made ∙ none) in
      let idle : spent rs ≡ [] = ap (filter (is_undone rs)) shut in
      let all : rs ≡ after_undo log.records =
      sym (goes_nowhere rs idle (no_lost shut (lost_changes rs) refl)) ∙ has.goes_on in
      sym (drop-append_seam log.records behind) ∙ ap (drop (length log.records)) all
    where
      no_lost : open_in rs ≡ [] → (ls : List LostChange) → lost_changes rs ≡ ls → lost_changes rs ≡ []
      no_lost shut [] lost = lost
      no_lost shut (l ∷ ls) lost =
          let live = All-head (λ k. is_open rs k.txn ≡ true) l ls
          (subst (All (λ k. is_open rs k.txn ≡ true)) lost (lost_of_open rs)) in
          let no : false ≡ true = sym (ap (list_any (λ n. eqb n l.txn)) shut) ∙ among l.txn live in
          absurd (cc)
