-- A step over transactions: its record may come next, and what the checkpoint is after it.
use Rattle.std.proofs.Common.{◌≡◌, ℕ, ◌+◌, ◌-◌, ◌<◌, ◌≤◌, eqb, true, List, [], ◌∷◌, ◌++◌, length, get_or, map}
use Rattle.std.proofs.Common.{refl, sym, ap, subst, ◌∙◌, arith, inl, inr}
use Rattle.std.specs.Prelude.{Option, Some, None, IfSome, IsSomeAnd, nat_le}
use Rattle.std.specs.List.{All, Contains, filter}
use Rattle.std.specs.Option.{option_map, option_map_or}
use Rattle.std.proofs.lemmas.Bool.{cases_lt, le-leb, leb-true}
use Rattle.std.proofs.lemmas.List.{length-map}
use Rattle.std.proofs.lemmas.List.Elements.{All-contains, All-filter, All-get_or, All-head, All-map, All-nil}
use Rattle.std.proofs.lemmas.List.Elements.{All-push, All-tail, All-take, All-weaker, Contains-append_left}
use Rattle.std.proofs.lemmas.List.Elements.{Contains-push, filter_passes}
use Rattle.std.proofs.lemmas.Option.{get_or_from_slice_get, slice_get-get_or, slice_get_within}
use Rattle.page_core.specs.declared.page.Page.{Page}
use Rattle.log_records.specs.declared.limits.TheConstants.{MAX_RECORDS}
use Rattle.log_records.specs.declared.record.Record.{Record}
use Rattle.log_records.specs.declared.record.Record.TheVariants.{Begin, Update, Comp, Commit, Abort, End, BeginChkpt}
use Rattle.log_records.specs.declared.record.Record.TheVariants.{ChkptPages, ChkptTxns, EndChkpt, Extend}
use Rattle.log_records.specs.Coverage.{Covers}
use Rattle.log_records.specs.Log.{IsLog, Log, StandsAt, page_count, with_next}
use Rattle.log_records.specs.Record.{IsBefore, IsTxn, own_lsn}
use Rattle.log_records.proofs.Public.{valid_change}
use Rattle.log_records.proofs.Public.{covers_later}
use Rattle.log_rules.specs.declared.pending_change.PendingChange.{PendingChange}
use Rattle.txn_table.specs.declared.txn_state.TxnState.{TxnState}
use Rattle.log_rules.specs.Checkpoint.{Checkpoint, checkpoint_after}
use Rattle.log_rules.specs.Linked.{IsLinked, MayFollow, MayRecordTxn}
use Rattle.log_rules.specs.Table.{entry_of}
use Rattle.log_rules.specs.Transactions.{begun, first_lsn, is_open, last_lsn, last_of, last_or, open_in, pending}
use Rattle.log_rules.specs.Transactions.{pending_from, records_of, txn_of, undo_next, with_pending}
use Rattle.txn_table.specs.TxnState.{state_of}
use Rattle.log_rules.proofs.Public.{begun_bounds, open_has_begun, some_from_begin}
use Rattle.txn_table.specs.TxnTable.{next_open}
use Rattle.txn_table.proofs.Public.{begun_few}
use Rattle.fuzzy_ckpt.specs.Ckpt.{AreCovered, CkptView, IsCkptOf, gathered, in_txns, txns_ckpt}
use Rattle.fuzzy_ckpt.specs.Steps.{Gathering, end_of, txn_record, txns_step}
use Rattle.fuzzy_ckpt.proofs.Ends.{end_is_lsn}
use Rattle.fuzzy_ckpt.proofs.Leasts.{least_in, least_low, least_none, of_kept}
use Rattle.fuzzy_ckpt.proofs.Opens.{begin_before, ckpt_redo_before, old_kept, open_before, open_push, pages_later}

-- ---- the numbers of an open transaction

before_end : (log : Log) → IsLog log → All (λ r. IsBefore (end_of log.records) (own_lsn r)) log.records
before_end log valid = λ i d lt.
    let stands = valid.records i d lt in
    let own = stands.lsn in
    record { place = (valid_change (get_or log.records i d) stands.valid).0; earlier = omega arith }

own_before : (log : Log) (t : ℕ) → IsLog log
    → All (λ r. IsBefore (end_of log.records) (own_lsn r)) (records_of log.records t)
own_before log t valid =
    All-filter (λ r. eqb (txn_of r) t) (λ r. IsBefore (end_of log.records) (own_lsn r)) log.records
    (before_end log valid)

is_txn : (rs : List Record) (t : ℕ) → IsLinked rs → length rs ≤ MAX_RECORDS → is_open rs t ≡ true → IsTxn t
is_txn rs t linked few still_open =
    let within = begun_bounds rs linked t (open_has_begun rs t still_open) in
    let count = begun_few rs in
    let low = within.0 in
    let high = within.1 in
    record { first = within.0; fits = omega arith }

last_or-has : (P : ℕ → Type 0) (d : ℕ) (ns : List ℕ) → P d → All P ns → P (last_or d ns)
last_or-has P d [] here all = here
last_or-has P d (n ∷ ns) here all = last_or-has P n ns (All-head P n ns all) (All-tail P n ns all)

last_or-some : (P : ℕ → Type 0) (d : ℕ) (ns : List ℕ) → 0 < length ns → All P ns → P (last_or d ns)
last_or-some P d [] some all = absurd (omega arith)
last_or-some P d (n ∷ ns) some all = last_or-has P n ns (All-head P n ns all) (All-tail P n ns all)

last_before : (log : Log) (t : ℕ) → IsLog log → is_open log.records t ≡ true
    → IsBefore (end_of log.records) (last_lsn log.records t)
last_before log t valid still_open =
    let own = records_of log.records t in
    let some = some_from_begin log.records t (open_has_begun log.records t still_open) in
    let long = length-map own own_lsn in
    last_or-some (IsBefore (end_of log.records)) 0 (map own_lsn own) (omega arith)
    (All-map (IsBefore (end_of log.records)) own_lsn own (own_before log t valid))

first_before : (log : Log) (t : ℕ) → IsLog log → is_open log.records t ≡ true
    → IsBefore (end_of log.records) (first_lsn log.records t)
first_before log t valid still_open =
    let own = records_of log.records t in
    let some = some_from_begin log.records t (open_has_begun log.records t still_open) in
    subst (λ (o : Option Record). IsBefore (end_of log.records) (option_map_or own_lsn o 0))
    (sym (slice_get-get_or own 0 (BeginChkpt 0) some))
    (own_before log t valid 0 (BeginChkpt 0) some)

-- ---- the first change that a rollback would take back

-- a change that is pending is one of an Update
abbrev IsAt : ℕ → PendingChange → Type 0
IsAt at p = IsBefore at p.lsn

pending_after : (at : ℕ) (changes : List PendingChange) (r : Record) → IsBefore at (own_lsn r) → All (IsAt at) changes
    → All (IsAt at) (with_pending changes r)
pending_after at changes (Update lsn txn prev page slot change) own all = All-push (IsAt at) changes _ all own
pending_after at changes (Comp lsn txn prev undo_next page slot change) own all = All-take (IsAt at) _ changes all
pending_after at changes (Begin lsn txn) own all = all
pending_after at changes (Commit lsn txn prev) own all = all
pending_after at changes (Abort lsn txn prev) own all = all
pending_after at changes (End lsn txn prev) own all = all
pending_after at changes (BeginChkpt lsn) own all = all
pending_after at changes (ChkptPages lsn begin entries) own all = all
pending_after at changes (ChkptTxns lsn begin txn state last undo) own all = all
pending_after at changes (EndChkpt lsn begin redo) own all = all
pending_after at changes (Extend lsn count) own all = all

pending_all : (at : ℕ) (changes : List PendingChange) (rs : List Record) → All (IsAt at) changes
    → All (λ r. IsBefore at (own_lsn r)) rs → All (IsAt at) (pending_from changes rs)
pending_all at changes [] all each = all
pending_all at changes (r ∷ rs) all each =
    let P = λ (r : Record). IsBefore at (own_lsn r) in
    pending_all at (with_pending changes r) rs (pending_after at changes r (All-head P r rs each) all)
    (All-tail P r rs each)

undo_before : (log : Log) (t : ℕ) → IsLog log → is_open log.records t ≡ true
    → IsBefore (end_of log.records) (undo_next log.records t)
undo_before log t valid still_open = by_last (last_of (pending log.records t)) refl
  where
    by_last : (o : Option PendingChange) → last_of (pending log.records t) ≡ o
        → IsBefore (end_of log.records) (option_map_or (λ p. p.lsn) o (first_lsn log.records t))
    by_last None none = first_before log t valid still_open
    by_last (Some p) some =
        let at = end_of log.records in
        let ps = pending log.records t in
        let all = pending_all at [] (records_of log.records t) (All-nil (IsAt at)) (own_before log t valid) in
        subst (IsAt at) (get_or_from_slice_get ps (length ps - 1) p p some)
        (All-get_or (IsAt at) ps (length ps - 1) p (slice_get_within ps (length ps - 1) p some) all)

-- ---- the next open transaction

next_at : (rs : List Record) (from t : ℕ) → next_open rs from ≡ Some t
    → (from ≤ t) × (is_open rs t ≡ true) × All (λ n. nat_le from n ≡ true → t ≤ n) (open_in rs)
next_at rs from t is =
    let ns = filter (nat_le from) (open_in rs) in
    let has = least_in ns t is in (
      leb-true from t (All-contains (λ n. nat_le from n ≡ true) ns t (filter_passes (nat_le from) (open_in rs)) has),
      All-contains (λ n. is_open rs n ≡ true) ns t
          (All-filter (nat_le from) (λ n. is_open rs n ≡ true) (open_in rs)
          (filter_passes (is_open rs) (begun rs))) has,
      of_kept (nat_le from) (λ n. t ≤ n) (open_in rs) (least_low ns t is),
    )

no_next : (rs : List Record) (from : ℕ) → next_open rs from ≡ None → All (λ n. nat_le from n ≡ true → ⊥) (open_in rs)
no_next rs from none =
    of_kept (nat_le from) (λ n. ⊥) (open_in rs)
    (subst (All (λ n. ⊥)) (sym (least_none (filter (nat_le from) (open_in rs)) none)) (All-nil (λ (n : ℕ). ⊥)))

-- what a table answers of it
pub table_found : (rs : List Record) (o : Option ℕ) (state : TxnState)
    → Some state ≡ option_map (λ t. state_of (entry_of rs t)) o
    → (o ≡ Some state.txn) × (state ≡ state_of (entry_of rs state.txn))
table_found rs None state is = absurd (cc)
table_found rs (Some t) state is =
    let same : state ≡ state_of (entry_of rs t) = cc in
    let number : t ≡ state.txn = ap (λ (s : TxnState). s.txn) (sym same) in
    (ap Some number, same ∙ ap (λ (n : ℕ). state_of (entry_of rs n)) number)

pub table_none : (rs : List Record) (o : Option ℕ) → None ≡ option_map (λ t. state_of (entry_of rs t)) o → o ≡ None
table_none rs None is = refl
table_none rs (Some t) is = absurd (cc)

-- ---- the checkpoint of the log

last_below : (from t : ℕ) (ns : List ℕ) → All (λ n. n < from) ns → from ≤ t → IfSome (last_of ns) (λ last. last < t)
last_below from t ns all le = by_last (last_of ns) refl
  where
    by_last : (o : Option ℕ) → last_of ns ≡ o → IfSome o (λ last. last < t)
    by_last None is = tt
    by_last (Some n) is =
        let lt : n < from = subst (λ k. k < from) (get_or_from_slice_get ns (length ns - 1) n n is)
        (All-get_or (λ k. k < from) ns (length ns - 1) n (slice_get_within ns (length ns - 1) n is) all) in
        omega arith

-- all of them are passed
pub all_passed : (log : Log) (c : CkptView ℕ) → IsCkptOf log (txns_ckpt c) → next_open log.records c.phase ≡ None
    → IsCkptOf log (record (txns_ckpt c) { phase = gathered })
all_passed log c is none =
    let rs = log.records in
    let old = is.behind.1 in
    let no = no_next rs c.phase none in
    record {
      ckpt = is.ckpt;
      still_open = is.still_open;
      same_begin = is.same_begin;
      same_pages = is.same_pages;
      same_redo = is.same_redo;
      behind = λ i d lt early. elim (cases_lt (get_or (open_in rs) i d) c.phase) [
        | inl below ↦ old i d lt early below
        | inr above ↦ absurd (no i d lt (le-leb c.phase (get_or (open_in rs) i d) above))
      ];
    }

-- ---- what holds of a step that has found one

pub record MoreTxns (log : Log) (c : CkptView ℕ) (t : ℕ) : Type 0 where
  pub step : txns_step log.records c.phase (txns_ckpt c)
      ≡ record {
        next = Some (txn_record log.records c.begin t);
        ckpt = record (txns_ckpt c) { phase = in_txns (t + 1) };
      }
  pub still_open : is_open log.records t ≡ true
  pub fits : t < MAX_RECORDS + 1
  pub follows : MayFollow log.records (txn_record log.records c.begin t)
  pub stands : length log.records < MAX_RECORDS
      → StandsAt (page_count log) (end_of log.records) (txn_record log.records c.begin t)
  pub kept : IsCkptOf (with_next log (txn_record log.records c.begin t ∷ []))
      (record (txns_ckpt c) { phase = in_txns (t + 1) })

pub more_txns : (log : Log) (c : CkptView ℕ) (t : ℕ) → IsLog log → IsLinked log.records
    → IsCkptOf log (txns_ckpt c)
    → next_open log.records c.phase ≡ Some t → MoreTxns log c t
more_txns log c t valid linked is found =
    let rs = log.records in
    let r = txn_record rs c.begin t in
    let at = next_at rs c.phase t found in
    let open_now = at.1 in
    let old = is.ckpt in
    let within = begun_bounds rs linked t (open_has_begun rs t open_now) in
    let count = begun_few rs in
    let few = valid.count in
    let may : MayFollow rs r = (
      subst (λ (o : Option Checkpoint). IsSomeAnd o (MayRecordTxn c.begin t)) (sym is.still_open)
          (record { same = is.same_begin; above = last_below c.phase t old.txns is.behind.0 at.0 }),
      record { still_open = open_now; same_state = refl; same_last = refl; same_undo = refl },
    ) in
    let before = (open_before log old valid is.still_open).begin.earlier in
    record {
      step = txn_found rs c t found;
      still_open = open_now;
      fits = let high = within.1 in omega arith;
      follows = may;
      stands = λ room. record {
        lsn = refl;
        valid = (
          end_is_lsn (length rs) (omega arith),
          begin_before log (txns_ckpt c) valid is,
          is_txn rs t linked few open_now,
          last_before log t valid open_now,
          undo_before log t valid open_now,
        );
        within = tt;
      };
      kept = record {
        ckpt = record old { txns = old.txns ++ t ∷ [] };
        still_open = open_push rs r ∙ ap (λ (o : Option Checkpoint). checkpoint_after o r) is.still_open;
        same_begin = is.same_begin;
        same_pages = is.same_pages ∙ sym (pages_later log r (txns_ckpt c) valid is);
        same_redo = is.same_redo;
        behind = (
          All-push (λ n. n < t + 1) old.txns t
              (All-weaker (λ n. n < c.phase) (λ n. n < t + 1)
              (λ n lt. let le = at.0 in omega arith) old.txns is.behind.0)
              (omega arith),
          old_kept rs r old.begin (λ n. n < t + 1 → Contains (old.txns ++ t ∷ []) n) linked may (omega arith)
              (λ i d lt early low. elim (cases_lt (get_or (open_in rs) i d) c.phase) [
                | inl below ↦
                    Contains-append_left old.txns (t ∷ []) (get_or (open_in rs) i d) (is.behind.1 i d lt early below)
                | inr above ↦
                    let le = at.2 i d lt (le-leb c.phase (get_or (open_in rs) i d) above) in
                    let same : t ≡ get_or (open_in rs) i d = omega arith in
                    subst (Contains (old.txns ++ t ∷ [])) same (Contains-push old.txns t)
              ]),
        );
      };
    }
  where
    txn_found : (rs : List Record) (c : CkptView ℕ) (t : ℕ) → next_open rs c.phase ≡ Some t
        → txns_step rs c.phase (txns_ckpt c)
        ≡ record { next = Some (txn_record rs c.begin t); ckpt = record (txns_ckpt c) { phase = in_txns (t + 1) } }
    txn_found rs c t found =
        let none : Gathering = record { next = None; ckpt = record (txns_ckpt c) { phase = gathered } } in
        let some : ℕ → Gathering = λ n. record {
          next = Some (txn_record rs c.begin n);
          ckpt = record (txns_ckpt c) { phase = in_txns (n + 1) };
        } in
        ap (λ (o : Option ℕ). option_map_or some o none) found

-- ---- of a table

pub table_more : (log : Log) (c : CkptView ℕ) (from : ℕ) (o : Option TxnState) (state : TxnState) → IsLog log
    → IsLinked log.records → IsCkptOf log (txns_ckpt c) → from ≡ c.phase
    → o ≡ option_map (λ t. state_of (entry_of log.records t)) (next_open log.records from) → o ≡ Some state
    → MoreTxns log c state.txn × (state ≡ state_of (entry_of log.records state.txn))
table_more log c from o state valid linked is same answer some =
    let found = table_found log.records (next_open log.records from) state (sym some ∙ answer) in
    (more_txns log c state.txn valid linked is (ap (next_open log.records) (sym same) ∙ found.0), found.1)

pub table_passed : (log : Log) (c : CkptView ℕ) (from : ℕ) (o : Option TxnState) → IsCkptOf log (txns_ckpt c)
    → from ≡ c.phase → o ≡ option_map (λ t. state_of (entry_of log.records t)) (next_open log.records from) → o ≡ None
    → IsCkptOf log (record (txns_ckpt c) { phase = gathered })
table_passed log c from o is same answer none =
    all_passed log c is
    (ap (next_open log.records) (sym same)
    ∙ table_none log.records (next_open log.records from) (sym none ∙ answer))

-- the stored pages cover what they did
pub txns_cover : (log : Log) (c : CkptView ℕ) (stored : List Page) (r : Record) → IsLog log
    → IsCkptOf log (txns_ckpt c) → own_lsn r ≡ end_of log.records
    → AreCovered log.records stored (txns_ckpt c)
    → (p : ℕ) (d : Page) → p < length stored → Covers (log.records ++ r ∷ []) p (get_or stored p d) c.redo
txns_cover log c stored r valid is own covered p d lt =
    let before = (ckpt_redo_before log (txns_ckpt c) valid is).earlier in
    covers_later log.records r p (get_or stored p d) c.redo (omega arith) (covered p d lt tt)
