-- What one more record changes in what a log says of its transactions.
use Rattle.std.proofs.Common.{◌≡◌, ◌≢◌, ℕ, ◌<◌, Bool, true, false, ◌&&◌, ◌||◌, not, eqb, List, [], ◌∷◌, ◌++◌, length}
use Rattle.std.proofs.Common.{append_assoc, map, slice_get, inl, inr, sym, refl, ap, ap₂, ◌∙◌, ne_eqb, eq-eqb}
use Rattle.std.specs.Prelude.{Some, None}
use Rattle.std.specs.Option.{option_map_or, option_to_list}
use Rattle.std.specs.List.{filter, list_any}
use Rattle.std.proofs.lemmas.List.{append-nil, map_push}
use Rattle.std.proofs.lemmas.Bool.{cases_eq}
use Rattle.std.proofs.lemmas.List.Elements.{filter_agree}
use Rattle.std.proofs.Math.Bool.{and-true, or-false}
use Rattle.log_rules.specs.declared.pending_change.PendingChange.{PendingChange}
use Rattle.log_records.specs.declared.record.Record.{Record}
use Rattle.log_records.specs.declared.record.Record.TheVariants.{Begin}
use Rattle.log_records.specs.Record.{own_lsn}
use Rattle.log_rules.specs.Transactions.{begun, begun_by, first_lsn, is_abort, is_last, is_open}
use Rattle.log_rules.specs.Transactions.{is_rolling, last_lsn, last_or, open_in, pending, pending_from}
use Rattle.log_rules.specs.Transactions.{records_of, txn_of, with_pending}
use Rattle.log_rules.specs.Work.{call_of, work, work_from}
use Rattle.log_rules.proofs.Filters.{filter-filter, filter_agree_but, filter_map_push, filter_push_in}
use Rattle.log_rules.proofs.Filters.{filter_push_out, first_push, list_any_push}

-- ---- the records of a transaction

pub records_of_push_own : (rs : List Record) (r : Record) (t : ℕ) → txn_of r ≡ t
    → records_of (rs ++ r ∷ []) t ≡ records_of rs t ++ r ∷ []
records_of_push_own rs r t same = filter_push_in (λ x. eqb (txn_of x) t) rs r (eq-eqb (txn_of r) t same)

pub records_of_push_other : (rs : List Record) (r : Record) (t : ℕ) → txn_of r ≢ t
    → records_of (rs ++ r ∷ []) t ≡ records_of rs t
records_of_push_other rs r t other = filter_push_out (λ x. eqb (txn_of x) t) rs r (ne_eqb (txn_of r) t other)

-- ---- what its records say of the transaction itself

pub last_or_push : {X : Type 0} (d : X) (xs : List X) (x : X) → last_or d (xs ++ x ∷ []) ≡ x
last_or_push d [] x = refl
last_or_push d (y ∷ ys) x = last_or_push y ys x

pub pending_from_push : (changes : List PendingChange) (rs : List Record) (r : Record)
    → pending_from changes (rs ++ r ∷ []) ≡ with_pending (pending_from changes rs) r
pending_from_push changes [] r = refl
pending_from_push changes (x ∷ xs) r = pending_from_push (with_pending changes x) xs r

pub last_lsn_push : (rs : List Record) (r : Record) (t : ℕ) → txn_of r ≡ t → last_lsn (rs ++ r ∷ []) t ≡ own_lsn r
last_lsn_push rs r t same =
    ap (λ xs. last_or 0 (map own_lsn xs)) (records_of_push_own rs r t same)
    ∙ ap (last_or 0) (map_push own_lsn (records_of rs t) r) ∙ last_or_push 0 (map own_lsn (records_of rs t)) (own_lsn r)

pub first_lsn_push : (rs : List Record) (r : Record) (t : ℕ) → txn_of r ≡ t → 0 < length (records_of rs t)
    → first_lsn (rs ++ r ∷ []) t ≡ first_lsn rs t
first_lsn_push rs r t same some =
    ap (λ xs. option_map_or own_lsn (slice_get xs 0) 0) (records_of_push_own rs r t same)
    ∙ ap (λ o. option_map_or own_lsn o 0) (first_push (records_of rs t) r some)

pub pending_push : (rs : List Record) (r : Record) (t : ℕ) → txn_of r ≡ t
    → pending (rs ++ r ∷ []) t ≡ with_pending (pending rs t) r
pending_push rs r t same =
    ap (pending_from []) (records_of_push_own rs r t same) ∙ pending_from_push [] (records_of rs t) r

-- a test of the transaction's records
pub any_push : (p : Record → Bool) (rs : List Record) (r : Record) (t : ℕ) → txn_of r ≡ t
    → list_any p (records_of (rs ++ r ∷ []) t) ≡ (list_any p (records_of rs t) || p r)
any_push p rs r t same = ap (list_any p) (records_of_push_own rs r t same) ∙ list_any_push p (records_of rs t) r

pub is_rolling_push : (rs : List Record) (r : Record) (t : ℕ) → txn_of r ≡ t
    → is_rolling (rs ++ r ∷ []) t ≡ (is_rolling rs t || is_abort r)
is_rolling_push = any_push is_abort

-- ---- which transactions began

pub begun_push : (rs : List Record) (r : Record) → begun (rs ++ r ∷ []) ≡ begun rs ++ option_to_list (begun_by r)
begun_push rs r = filter_map_push begun_by rs r

pub begun_push_none : (rs : List Record) (r : Record) → begun_by r ≡ None → begun (rs ++ r ∷ []) ≡ begun rs
begun_push_none rs r none = begun_push rs r ∙ ap (λ o. begun rs ++ option_to_list o) none ∙ append-nil (begun rs)

-- a transaction began, and one of its records ends it
abbrev pub has_begun : List Record → ℕ → Bool
has_begun rs t = list_any (λ b. eqb b t) (begun rs)

abbrev pub has_ended : List Record → ℕ → Bool
has_ended rs t = list_any is_last (records_of rs t)

pub has_begun_push_none : (rs : List Record) (r : Record) (t : ℕ) → begun_by r ≡ None
    → has_begun (rs ++ r ∷ []) t ≡ has_begun rs t
has_begun_push_none rs r t none = ap (list_any (λ b. eqb b t)) (begun_push_none rs r none)

pub has_begun_push_begin : (rs : List Record) (r : Record) (u t : ℕ) → begun_by r ≡ Some u
    → has_begun (rs ++ r ∷ []) t ≡ (has_begun rs t || eqb u t)
has_begun_push_begin rs r u t begins =
    ap (list_any (λ b. eqb b t)) (begun_push rs r ∙ ap (λ o. begun rs ++ option_to_list o) begins)
    ∙ list_any_push (λ b. eqb b t) (begun rs) u

pub has_begun_push_other : (rs : List Record) (r : Record) (t : ℕ) → txn_of r ≢ t
    → has_begun (rs ++ r ∷ []) t ≡ has_begun rs t
has_begun_push_other rs (Begin lsn u) t other =
    has_begun_push_begin rs (Begin lsn u) u t refl ∙ ap (λ b. has_begun rs t || b) (ne_eqb u t other)
    ∙ or-false (has_begun rs t)
has_begun_push_other rs r t other = has_begun_push_none rs r t refl

-- ---- which are open

pub is_open_push_other : (rs : List Record) (r : Record) (t : ℕ) → txn_of r ≢ t
    → is_open (rs ++ r ∷ []) t ≡ is_open rs t
is_open_push_other rs r t other =
    ap₂
    (λ b xs. b && not (list_any is_last xs)) (has_begun_push_other rs r t other) (records_of_push_other rs r t other)

pub is_open_push_own : (rs : List Record) (r : Record) (t : ℕ) → begun_by r ≡ None → txn_of r ≡ t
    → is_open (rs ++ r ∷ []) t ≡ (is_open rs t && not (is_last r))
is_open_push_own rs r t none same =
    ap₂ (λ b e. b && not e) (has_begun_push_none rs r t none) (any_push is_last rs r t same)
    ∙ neither (has_begun rs t) (has_ended rs t) (is_last r)
  where
    neither : (a b c : Bool) → (a && not (b || c)) ≡ (a && not b && not c)
    neither true true c = refl
    neither true false c = refl
    neither false b c = refl

-- a transaction that had no record begins
pub is_open_push_begin : (rs : List Record) (lsn t : ℕ) → records_of rs t ≡ []
    → is_open (rs ++ Begin lsn t ∷ []) t ≡ true
is_open_push_begin rs lsn t none =
    ap₂ (λ b e. b && not e) (has_begun_push_begin rs (Begin lsn t) t t refl) (any_push is_last rs (Begin lsn t) t refl)
    ∙ ap₂ (λ b xs. (has_begun rs t || b) && not (list_any is_last xs || false)) (eq-eqb t t refl) none
    ∙ either (has_begun rs t)
  where
    either : (a : Bool) → ((a || true) && true) ≡ true
    either true = refl
    either false = refl

pub open_in_push_begin : (rs : List Record) (lsn t : ℕ) → records_of rs t ≡ [] → has_begun rs t ≡ false
    → open_in (rs ++ Begin lsn t ∷ []) ≡ open_in rs ++ t ∷ []
open_in_push_begin rs lsn t none new =
    let r = Begin lsn t in
    let after = is_open (rs ++ r ∷ []) in
    ap (filter after) (begun_push rs r) ∙ filter_push_in after (begun rs) t (is_open_push_begin rs lsn t none)
    ∙ ap (λ xs. xs ++ t ∷ []) (filter_agree_but t after (is_open rs) other (begun rs) new)
  where
    other : (o : ℕ) → o ≢ t → is_open (rs ++ Begin lsn t ∷ []) o ≡ is_open rs o
    other o apart = is_open_push_other rs (Begin lsn t) o (λ same. apart (sym same))

-- another record leaves the open ones, unless it ends its transaction
pub is_open_push : (rs : List Record) (r : Record) → begun_by r ≡ None → (last : Bool) → is_last r ≡ last → (o : ℕ)
    → is_open (rs ++ r ∷ []) o ≡ (is_open rs o && not (eqb o (txn_of r) && last))
is_open_push rs r none last is o = elim (cases_eq o (txn_of r)) [
  | inl same ↦
      is_open_push_own rs r o none (sym same)
      ∙ ap₂ (λ b l. is_open rs o && not (b && l)) (sym (eq-eqb o (txn_of r) same)) is
  | inr other ↦
      is_open_push_other rs r o (λ same. other (sym same)) ∙ sym (and-true (is_open rs o))
      ∙ ap (λ b. is_open rs o && not (b && last)) (sym (ne_eqb o (txn_of r) other))
]

pub open_in_push_same : (rs : List Record) (r : Record) → begun_by r ≡ None → is_last r ≡ false
    → open_in (rs ++ r ∷ []) ≡ open_in rs
open_in_push_same rs r none more =
    let after = is_open (rs ++ r ∷ []) in
    let same = λ (o : ℕ). is_open_push rs r none false more o ∙ stays (is_open rs o) (eqb o (txn_of r)) in
    ap (filter after) (begun_push_none rs r none) ∙ filter_agree after (is_open rs) same (begun rs)
  where
    stays : (a b : Bool) → (a && not (b && false)) ≡ a
    stays true true = refl
    stays true false = refl
    stays false b = refl

pub open_in_push_last : (rs : List Record) (r : Record) → begun_by r ≡ None → is_last r ≡ true
    → open_in (rs ++ r ∷ []) ≡ filter (λ o. not (eqb o (txn_of r))) (open_in rs)
open_in_push_last rs r none last =
    let after = is_open (rs ++ r ∷ []) in
    let away = λ (o : ℕ). not (eqb o (txn_of r)) in
    let same = λ (o : ℕ).
    is_open_push rs r none true last o ∙ ap (λ b. is_open rs o && not b) (and-true (eqb o (txn_of r))) in
    ap (filter after) (begun_push_none rs r none) ∙ filter_agree after (λ o. is_open rs o && away o) same (begun rs)
    ∙ sym (filter-filter (is_open rs) away (begun rs))

-- ---- the calls that it shows

work_from_push : (before rs : List Record) (r : Record)
    → work_from before (rs ++ r ∷ []) ≡ work_from before rs ++ option_to_list (call_of (before ++ rs) r)
work_from_push before [] r =
    append-nil (option_to_list (call_of before r))
    ∙ ap (λ xs. option_to_list (call_of xs r)) (sym (append-nil before))
work_from_push before (x ∷ xs) r =
    let here = option_to_list (call_of before x) in
    ap (λ ys. here ++ ys)
    (work_from_push (before ++ x ∷ []) xs r
    ∙ ap (λ ys. work_from (before ++ x ∷ []) xs ++ option_to_list (call_of ys r)) (append_assoc before (x ∷ []) xs))
    ∙ sym (append_assoc here (work_from (before ++ x ∷ []) xs) (option_to_list (call_of (before ++ x ∷ xs) r)))

pub work_push : (rs : List Record) (r : Record) → work (rs ++ r ∷ []) ≡ work rs ++ option_to_list (call_of rs r)
work_push rs r = work_from_push [] rs r
