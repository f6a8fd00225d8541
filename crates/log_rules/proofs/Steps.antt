-- The table of a log after one more record.
use Rattle.std.proofs.Common.{◌≡◌, ◌≢◌, ℕ, ◌+◌, ◌<◌, Bool, true, false, cond, ◌||◌, not, eqb, List, [], ◌∷◌, ◌++◌}
use Rattle.std.proofs.Common.{length, map, slice_get, sym, refl, ap, ap₂, ◌∙◌, inl, inr, arith, eq-eqb, ne_eqb}
use Rattle.std.proofs.Common.{eqb-true}
use Rattle.std.specs.Option.{option_map_or}
use Rattle.std.specs.Prelude.{None}
use Rattle.std.specs.List.{filter, list_any}
use Rattle.std.proofs.lemmas.Bool.{and_left, cases_eq}
use Rattle.std.proofs.lemmas.List.{length_push, map_push}
use Rattle.std.proofs.lemmas.Map.Views.{any-filter_same}
use Rattle.std.proofs.Math.Path.{fun_ext}
use Rattle.std.proofs.lemmas.Simd.{map-map}
use Rattle.std.proofs.Math.Bool.{or-false, or-true}
use Rattle.log_records.specs.declared.record.Record.{Record}
use Rattle.log_records.specs.declared.record.Record.TheVariants.{Begin, Update, Comp, Commit, Abort, End, BeginChkpt}
use Rattle.log_records.specs.declared.record.Record.TheVariants.{ChkptPages, ChkptTxns, EndChkpt, Extend}
use Rattle.log_records.specs.Record.{IsOfTransaction, own_lsn}
use Rattle.log_rules.specs.Transactions.{begun, begun_by, first_lsn, is_abort, is_last, is_open}
use Rattle.log_rules.specs.Transactions.{is_rolling, last_or, open_in, pending, pending_from, records_of}
use Rattle.log_rules.specs.Transactions.{txn_of, with_pending}
use Rattle.log_rules.specs.Linked.{IsLinked, MayFollow}
use Rattle.log_rules.specs.Table.{TxnEntry, entry_after, entry_of, noted, table_of, with_entry, without_entry}
use Rattle.log_rules.proofs.Filters.{filter-map, map_agree_but}
use Rattle.log_rules.proofs.Pushes.{begun_push, begun_push_none, first_lsn_push, has_begun}
use Rattle.log_rules.proofs.Pushes.{is_rolling_push, last_lsn_push, open_in_push_begin, open_in_push_last}
use Rattle.log_rules.proofs.Pushes.{open_in_push_same, pending_push, records_of_push_other, records_of_push_own}
use Rattle.log_rules.proofs.Begun.{next_is_new, none_before_begin, open_has_begun, some_from_begin, zero_not_open}

-- ---- one entry

-- the entry of a transaction with these records
abbrev pub entry_from : ℕ → List Record → TxnEntry
entry_from t xs = record {
  txn = t;
  first = option_map_or own_lsn (slice_get xs 0) 0;
  last = last_or 0 (map own_lsn xs);
  rolling = list_any is_abort xs;
  pending = pending_from [] xs;
}

pub entry_of_push_other : (rs : List Record) (r : Record) (t : ℕ) → txn_of r ≢ t
    → entry_of (rs ++ r ∷ []) t ≡ entry_of rs t
entry_of_push_other rs r t other = ap (entry_from t) (records_of_push_other rs r t other)

-- the entry of an open transaction with one record more
abbrev grown : List Record → Record → ℕ → TxnEntry
grown rs r t = record {
  txn = t;
  first = first_lsn rs t;
  last = own_lsn r;
  rolling = is_rolling rs t || is_abort r;
  pending = with_pending (pending rs t) r;
}

entry_of_push_own : (rs : List Record) (r : Record) (t : ℕ) → txn_of r ≡ t → 0 < length (records_of rs t)
    → entry_of (rs ++ r ∷ []) t ≡ grown rs r t
entry_of_push_own rs r t same some = λ i. record {
  txn = t;
  first = first_lsn_push rs r t same some i;
  last = last_lsn_push rs r t same i;
  rolling = is_rolling_push rs r t same i;
  pending = pending_push rs r t same i;
}

grown_is_after : (rs : List Record) (r : Record) (t : ℕ) → IsOfTransaction r → begun_by r ≡ None → is_last r ≡ false
    → grown rs r t ≡ entry_after (entry_of rs t) r
grown_is_after rs (Begin lsn u) t of none more = cc
grown_is_after rs (Update lsn u prev page slot change) t of none more = λ i. record {
  txn = t;
  first = first_lsn rs t;
  last = lsn;
  rolling = or-false (is_rolling rs t) i;
  pending = with_pending (pending rs t) (Update lsn u prev page slot change);
}
grown_is_after rs (Comp lsn u prev undo_next page slot change) t of none more = λ i. record {
  txn = t;
  first = first_lsn rs t;
  last = lsn;
  rolling = or-false (is_rolling rs t) i;
  pending = with_pending (pending rs t) (Comp lsn u prev undo_next page slot change);
}
grown_is_after rs (Commit lsn u prev) t of none more = cc
grown_is_after rs (Abort lsn u prev) t of none more = λ i. record {
  txn = t;
  first = first_lsn rs t;
  last = lsn;
  rolling = or-true (is_rolling rs t) i;
  pending = pending rs t;
}
grown_is_after rs (End lsn u prev) t of none more = cc
grown_is_after rs (BeginChkpt lsn) t of none more = absurd of
grown_is_after rs (ChkptPages lsn begin pages) t of none more = absurd of
grown_is_after rs (ChkptTxns lsn begin u state last undo) t of none more = absurd of
grown_is_after rs (EndChkpt lsn begin redo) t of none more = absurd of
grown_is_after rs (Extend lsn pages) t of none more = absurd of

entry_of_push : (rs : List Record) (r : Record) → IsOfTransaction r → begun_by r ≡ None → is_last r ≡ false
    → 0 < length (records_of rs (txn_of r)) → (t : ℕ)
    → entry_of (rs ++ r ∷ []) t ≡ cond (eqb t (txn_of r)) (entry_after (entry_of rs t) r) (entry_of rs t)
entry_of_push rs r of none more some t =
    let own = entry_after (entry_of rs t) r in
    elim (cases_eq t (txn_of r)) [
      | inl same ↦
          let some_of_t : 0 < length (records_of rs t) = rw same some in
          entry_of_push_own rs r t (sym same) some_of_t ∙ grown_is_after rs r t of none more
          ∙ sym (ap (λ b. cond b own (entry_of rs t)) (eq-eqb t (txn_of r) same))
      | inr other ↦
          entry_of_push_other rs r t (λ same. other (sym same))
          ∙ sym (ap (λ b. cond b own (entry_of rs t)) (ne_eqb t (txn_of r) other))
    ]

-- ---- the open transactions without one

pub not_among : (p : ℕ → Bool) (t : ℕ) → p t ≡ false → (xs : List ℕ) → list_any (λ n. eqb n t) (filter p xs) ≡ false
not_among p t out xs = any-filter_same (λ n. eqb n t) p false (λ n is. ap p (eqb-true n t is) ∙ out) xs

-- ---- the table

begin_noted : (rs : List Record) (lsn t : ℕ) → has_begun rs t ≡ false → records_of rs t ≡ []
    → table_of (rs ++ Begin lsn t ∷ []) ≡ noted (table_of rs) (Begin lsn t)
begin_noted rs lsn t new none = λ i. record { begun = count i; entries = entries i }
  where
    count : length (begun (rs ++ Begin lsn t ∷ [])) ≡ length (begun rs) + 1
    count = ap length (begun_push rs (Begin lsn t)) ∙ length_push (begun rs) t

    others : (o : ℕ) → o ≢ t → entry_of (rs ++ Begin lsn t ∷ []) o ≡ entry_of rs o
    others o apart = entry_of_push_other rs (Begin lsn t) o (λ same. apart (sym same))

    alone : records_of (rs ++ Begin lsn t ∷ []) t ≡ Begin lsn t ∷ []
    alone = records_of_push_own rs (Begin lsn t) t refl ∙ ap (λ xs. xs ++ Begin lsn t ∷ []) none

    entries : map (entry_of (rs ++ Begin lsn t ∷ [])) (open_in (rs ++ Begin lsn t ∷ []))
        ≡ map (entry_of rs) (open_in rs) ++ entry_from t (Begin lsn t ∷ []) ∷ []
    entries =
        let after = entry_of (rs ++ Begin lsn t ∷ []) in
        let away = not_among (is_open rs) t (and_left (has_begun rs t) _ new) (begun rs) in
        let same = map_agree_but t after (entry_of rs) others (open_in rs) away in
        ap (map after) (open_in_push_begin rs lsn t none new) ∙ map_push after (open_in rs) t
        ∙ ap₂ (λ es e. es ++ e ∷ []) same (ap (entry_from t) alone)

-- a record that goes into an entry
kept_noted : (rs : List Record) (r : Record) → IsOfTransaction r → begun_by r ≡ None → is_last r ≡ false
    → is_open rs (txn_of r) ≡ true
    → table_of (rs ++ r ∷ []) ≡ with_entry (table_of rs) (txn_of r) r
kept_noted rs r of none more still = λ i. record
    { begun = ap length (begun_push_none rs r none) i; entries = entries i }
  where
    entries : map (entry_of (rs ++ r ∷ [])) (open_in (rs ++ r ∷ []))
        ≡ map (λ e. cond (eqb e.txn (txn_of r)) (entry_after e r) e) (map (entry_of rs) (open_in rs))
    entries =
        let some = some_from_begin rs (txn_of r) (open_has_begun rs (txn_of r) still) in
        let each = fun_ext (entry_of_push rs r of none more some) in
        ap (map (entry_of (rs ++ r ∷ []))) (open_in_push_same rs r none more) ∙ ap (λ f. map f (open_in rs)) each
        ∙ sym (map-map (λ e. cond (eqb e.txn (txn_of r)) (entry_after e r) e) (entry_of rs) (open_in rs))

-- a record that takes an entry away
last_noted : (rs : List Record) (r : Record) → begun_by r ≡ None → is_last r ≡ true
    → table_of (rs ++ r ∷ []) ≡ without_entry (table_of rs) (txn_of r)
last_noted rs r none last = λ i. record { begun = ap length (begun_push_none rs r none) i; entries = entries i }
  where
    others : (o : ℕ) → o ≢ txn_of r → entry_of (rs ++ r ∷ []) o ≡ entry_of rs o
    others o apart = entry_of_push_other rs r o (λ same. apart (sym same))

    entries : map (entry_of (rs ++ r ∷ [])) (open_in (rs ++ r ∷ []))
        ≡ filter (λ e. not (eqb e.txn (txn_of r))) (map (entry_of rs) (open_in rs))
    entries =
        let u = txn_of r in
        let after = entry_of (rs ++ r ∷ []) in
        let rest = filter (λ o. not (eqb o u)) (open_in rs) in
        let away = not_among (λ o. not (eqb o u)) u (ap not (eq-eqb u u refl)) (open_in rs) in
        ap (map after) (open_in_push_last rs r none last) ∙ map_agree_but u after (entry_of rs) others rest away
        ∙ sym (filter-map (entry_of rs) (λ e. not (eqb e.txn u)) (open_in rs))

-- a record of no transaction
aside_noted : (rs : List Record) (r : Record) → IsLinked rs → begun_by r ≡ None → is_last r ≡ false → txn_of r ≡ 0
    → table_of (rs ++ r ∷ []) ≡ table_of rs
aside_noted rs r linked none more no_txn = λ i. record {
  begun = ap length (begun_push_none rs r none) i;
  entries = entries i;
}
  where
    others : (o : ℕ) → o ≢ 0 → entry_of (rs ++ r ∷ []) o ≡ entry_of rs o
    others o apart = entry_of_push_other rs r o (λ same. apart (sym same ∙ no_txn))

    entries : map (entry_of (rs ++ r ∷ [])) (open_in (rs ++ r ∷ [])) ≡ map (entry_of rs) (open_in rs)
    entries =
        let away = not_among (is_open rs) 0 (zero_not_open rs linked) (begun rs) in
        ap (map (entry_of (rs ++ r ∷ []))) (open_in_push_same rs r none more)
        ∙ map_agree_but 0 (entry_of (rs ++ r ∷ [])) (entry_of rs) others (open_in rs) away

-- the table of a linked log is kept record by record
pub table_of_push : (rs : List Record) (r : Record) → IsLinked rs → MayFollow rs r
    → table_of (rs ++ r ∷ []) ≡ noted (table_of rs) r
table_of_push rs (Begin lsn t) linked may =
    let next = may.next in
    let new = next_is_new rs linked t (omega arith) in
    begin_noted rs lsn t new (none_before_begin rs linked t (omega arith) new)
table_of_push rs (Update lsn t prev page slot change) linked may =
    kept_noted rs (Update lsn t prev page slot change) tt refl refl may.active.goes_on.still_open
table_of_push rs (Comp lsn t prev undo_next page slot change) linked may =
    kept_noted rs (Comp lsn t prev undo_next page slot change) tt refl refl may.0.still_open
table_of_push rs (Commit lsn t prev) linked may = last_noted rs (Commit lsn t prev) refl refl
table_of_push rs (Abort lsn t prev) linked may = kept_noted rs (Abort lsn t prev) tt refl refl may.goes_on.still_open
table_of_push rs (End lsn t prev) linked may = last_noted rs (End lsn t prev) refl refl
table_of_push rs (BeginChkpt lsn) linked may = aside_noted rs (BeginChkpt lsn) linked refl refl refl
table_of_push rs (ChkptPages lsn begin pages) linked may =
    aside_noted rs (ChkptPages lsn begin pages) linked refl refl refl
table_of_push rs (ChkptTxns lsn begin t state last undo) linked may =
    aside_noted rs (ChkptTxns lsn begin t state last undo) linked refl refl refl
table_of_push rs (EndChkpt lsn begin redo) linked may = aside_noted rs (EndChkpt lsn begin redo) linked refl refl refl
table_of_push rs (Extend lsn pages) linked may = aside_noted rs (Extend lsn pages) linked refl refl refl
