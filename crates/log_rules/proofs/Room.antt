-- How many records the open transactions of a linked log may still need, after one more record.
use Rattle.std.proofs.Common.{◌≡◌, ◌≢◌, ℕ, zero, suc, ◌+◌, ◌-◌, ◌<◌, ◌≤◌, Bool, true, false, cond, ◌&&◌, ◌||◌, not, eqb}
use Rattle.std.proofs.Common.{List, [], ◌∷◌, ◌++◌, length, sym, refl, ap, ap₂, ◌∙◌, inl, inr, arith, eq-eqb, ne_eqb}
use Rattle.std.proofs.Common.{sum, sum_by, zero-add, le_of_eq}
use Rattle.std.specs.Prelude.{None, IsSomeAnd}
use Rattle.std.specs.List.{filter, list_any, range_with_len}
use Rattle.std.proofs.lemmas.Bool.{and_left, cases_eq}
use Rattle.std.proofs.lemmas.List.{length_push, length-take-le}
use Rattle.std.proofs.lemmas.List.Elements.{filter_agree}
use Rattle.std.proofs.lemmas.List.Filters.{sum_by-filter_both}
use Rattle.std.proofs.lemmas.List.Sums.{sum-map, sum_by_push}
use Rattle.std.proofs.Math.Bool.{and_comm, or-false}
use Rattle.page_core.specs.declared.change.Change.{Change}
use Rattle.log_rules.specs.declared.pending_change.PendingChange.{PendingChange}
use Rattle.log_records.specs.declared.record.Record.{Record}
use Rattle.log_records.specs.declared.record.Record.TheVariants.{Begin, Update, Comp, Commit, Abort, End, BeginChkpt}
use Rattle.log_records.specs.declared.record.Record.TheVariants.{ChkptPages, ChkptTxns, EndChkpt, Extend}
use Rattle.log_rules.specs.Transactions.{begun, begun_by, is_abort, is_last, is_open, is_rolling}
use Rattle.log_rules.specs.Transactions.{last_of, open_in, owed, owed_by, pending, pending_from, records_of, txn_of}
use Rattle.log_rules.specs.Transactions.{with_pending, without_last}
use Rattle.log_rules.specs.Linked.{IsLinked, MayFollow}
use Rattle.log_rules.proofs.Filters.{filter-filter, map_agree_but}
use Rattle.log_rules.proofs.Pushes.{has_begun, is_rolling_push, open_in_push_begin, open_in_push_last}
use Rattle.log_rules.proofs.Pushes.{open_in_push_same, pending_push, records_of_push_other, records_of_push_own}
use Rattle.log_rules.proofs.Begun.{begun_bounds, begun_is, next_is_new, none_before_begin, open_has_begun}
use Rattle.log_rules.proofs.Begun.{zero_not_open}
use Rattle.log_rules.proofs.Steps.{not_among}

-- ---- an open transaction stands once among the open ones

none-range_with_len : (a n t : ℕ) → t < a → filter (λ o. eqb o t) (range_with_len a n) ≡ []
none-range_with_len a zero t below = refl
none-range_with_len a (suc n) t below =
    let other : a ≢ t = omega arith in
    ap₂ (λ b xs. cond b (a ∷ xs) xs) (ne_eqb a t other) (none-range_with_len (a + 1) n t (omega arith))

once-range_with_len : (a n t : ℕ) → a ≤ t → t < a + n → filter (λ o. eqb o t) (range_with_len a n) ≡ t ∷ []
once-range_with_len a zero t from below = absurd (omega arith)
once-range_with_len a (suc n) t from below =
    let behind = filter (λ o. eqb o t) (range_with_len (a + 1) n) in
    elim (cases_eq a t) [
      | inl same ↦
          ap₂ (λ b xs. cond b (a ∷ xs) xs) (eq-eqb a t same) (none-range_with_len (a + 1) n t (omega arith))
          ∙ ap (λ x. x ∷ []) same
      | inr other ↦
          ap (λ b. cond b (a ∷ behind) behind) (ne_eqb a t other)
          ∙ once-range_with_len (a + 1) n t (omega arith) (omega arith)
    ]

pub open_once : (rs : List Record) → IsLinked rs → (t : ℕ) → is_open rs t ≡ true
    → filter (λ o. eqb o t) (open_in rs) ≡ t ∷ []
open_once rs linked t still =
    let within = begun_bounds rs linked t (open_has_begun rs t still) in
    let is = λ (o : ℕ). eqb o t in
    let once : filter is (begun rs) ≡ t ∷ [] =
    ap (filter is) (begun_is rs linked) ∙ once-range_with_len 1 (length (begun rs)) t within.0 (omega arith) in
    let swap = λ (o : ℕ). and_comm (is_open rs o) (is o) in
    filter-filter (is_open rs) is (begun rs) ∙ filter_agree _ (λ o. is o && is_open rs o) swap (begun rs)
    ∙ sym (filter-filter is (is_open rs) (begun rs))
    ∙ ap (filter (is_open rs)) once ∙ ap (λ b. cond b (t ∷ []) []) still

-- ---- sums over the open ones

abbrev rest_of : List Record → ℕ → List ℕ
rest_of rs t = filter (λ o. not (eqb o t)) (open_in rs)

sum_split : (rs : List Record) → IsLinked rs → (t : ℕ) → is_open rs t ≡ true → (f : ℕ → ℕ)
    → f t + sum_by f (rest_of rs t) ≡ sum_by f (open_in rs)
sum_split rs linked t still f =
    let both = sum_by-filter_both (λ o. eqb o t) (λ o. not (eqb o t)) (λ o. refl) f (open_in rs) in
    let one = ap (sum_by f) (open_once rs linked t still) ∙ zero-add (f t) in
    omega (arith, both, one)

sum_agree_but : (t : ℕ) (f g : ℕ → ℕ) → ((n : ℕ) → n ≢ t → f n ≡ g n)
    → (xs : List ℕ) → list_any (λ n. eqb n t) xs ≡ false → sum_by f xs ≡ sum_by g xs
sum_agree_but t f g agree xs out = sym (sum-map f xs) ∙ ap sum (map_agree_but t f g agree xs out) ∙ sum-map g xs

sum_rest : (rs : List Record) (t : ℕ) (f g : ℕ → ℕ) → ((n : ℕ) → n ≢ t → f n ≡ g n)
    → sum_by f (rest_of rs t) ≡ sum_by g (rest_of rs t)
sum_rest rs t f g agree =
    sum_agree_but t f g agree (rest_of rs t) (not_among (λ o. not (eqb o t)) t (ap not (eq-eqb t t refl)) (open_in rs))

-- ---- what one transaction is owed after one more record

owed_by_from : List Record → ℕ
owed_by_from xs = length (pending_from [] xs) + cond (list_any is_abort xs) 1 2

owed_by_push_other : (rs : List Record) (r : Record) (t : ℕ) → t ≢ txn_of r → owed_by (rs ++ r ∷ []) t ≡ owed_by rs t
unfolding owed_by_from
owed_by_push_other rs r t other = ap owed_by_from (records_of_push_other rs r t (λ same. other (sym same)))

owed_by_push_own : (rs : List Record) (r : Record) (t : ℕ) → txn_of r ≡ t
    → owed_by (rs ++ r ∷ []) t ≡ length (with_pending (pending rs t) r) + cond (is_rolling rs t || is_abort r) 1 2
owed_by_push_own rs r t same =
    ap₂ (λ ps b. length ps + cond b 1 2) (pending_push rs r t same) (is_rolling_push rs r t same)

-- a record that is no Abort
owed_by_push_kept : (rs : List Record) (r : Record) (t : ℕ) → txn_of r ≡ t → is_abort r ≡ false
    → owed_by (rs ++ r ∷ []) t ≡ length (with_pending (pending rs t) r) + cond (is_rolling rs t) 1 2
owed_by_push_kept rs r t same other =
    owed_by_push_own rs r t same
    ∙ ap
    (λ b. length (with_pending (pending rs t) r) + cond b 1 2)
    (ap (λ b. is_rolling rs t || b) other ∙ or-false (is_rolling rs t))

-- ---- what is owed after one more record

-- a record of an open transaction that does not end it
owed_push : (rs : List Record) (r : Record) → IsLinked rs → begun_by r ≡ None → is_last r ≡ false
    → is_open rs (txn_of r) ≡ true
    → owed (rs ++ r ∷ []) + owed_by rs (txn_of r) ≡ owed rs + owed_by (rs ++ r ∷ []) (txn_of r)
owed_push rs r linked none more still =
    let t = txn_of r in
    let after = owed_by (rs ++ r ∷ []) in
    let same_open = ap (sum_by after) (open_in_push_same rs r none more) in
    let rest = sum_rest rs t after (owed_by rs) (owed_by_push_other rs r) in
    omega (arith, same_open, rest, sum_split rs linked t still after, sum_split rs linked t still (owed_by rs))

-- one that does
pub owed_push_last : (rs : List Record) (r : Record) → IsLinked rs → begun_by r ≡ None → is_last r ≡ true
    → is_open rs (txn_of r) ≡ true
    → owed (rs ++ r ∷ []) + owed_by rs (txn_of r) ≡ owed rs
owed_push_last rs r linked none last still =
    let t = txn_of r in
    let after = owed_by (rs ++ r ∷ []) in
    let fewer = ap (sum_by after) (open_in_push_last rs r none last) in
    let rest = sum_rest rs t after (owed_by rs) (owed_by_push_other rs r) in
    omega (arith, fewer, rest, sum_split rs linked t still (owed_by rs))

-- a new transaction
owed_push_begin : (rs : List Record) (lsn t : ℕ) → has_begun rs t ≡ false → records_of rs t ≡ []
    → owed (rs ++ Begin lsn t ∷ []) ≡ owed rs + 2
unfolding owed_by_from
owed_push_begin rs lsn t new none =
    let after = owed_by (rs ++ Begin lsn t ∷ []) in
    let others = λ (o : ℕ) (apart : o ≢ t). owed_by_push_other rs (Begin lsn t) o apart in
    let away = not_among (is_open rs) t (and_left (has_begun rs t) _ new) (begun rs) in
    let alone : after t ≡ 2 =
    ap owed_by_from (records_of_push_own rs (Begin lsn t) t refl ∙ ap (λ xs. xs ++ Begin lsn t ∷ []) none) in
    ap (sum_by after) (open_in_push_begin rs lsn t none new) ∙ sum_by_push after (open_in rs) t
    ∙ ap₂ (λ m n. m + n) (sum_agree_but t after (owed_by rs) others (open_in rs) away) alone

-- ---- the last pending change

pub some_from_last : (changes : List PendingChange) (P : PendingChange → Type 0) → IsSomeAnd (last_of changes) P
    → 0 < length changes
some_from_last [] P holds = absurd holds
some_from_last (c ∷ cs) P holds = omega arith

length-without_last : (changes : List PendingChange) → 0 < length changes
    → length (without_last changes) + 1 ≡ length changes
length-without_last changes some =
    omega (arith, length-take-le (length changes - 1) changes (omega arith))

-- ---- records and what is owed: a Begin needs room for three, an Update for two, a checkpoint's record for itself,
-- and no other record needs any

-- the records that stand in a log, and those that its open transactions may still need
abbrev pub claimed : List Record → ℕ
claimed rs = length rs + owed rs

pub claimed_begin : (rs : List Record) (lsn t : ℕ) → IsLinked rs → MayFollow rs (Begin lsn t)
    → claimed (rs ++ Begin lsn t ∷ []) ≡ claimed rs + 3
claimed_begin rs lsn t linked may =
    let next = may.next in
    let new = next_is_new rs linked t (omega arith) in
    let more = owed_push_begin rs lsn t new (none_before_begin rs linked t (omega arith) new) in
    omega (arith, more, length_push rs (Begin lsn t))

pub claimed_update : (rs : List Record) (lsn t prev page slot : ℕ) (change : Change)
    → let r = Update lsn t prev page slot change in IsLinked rs → MayFollow rs r
    → claimed (rs ++ r ∷ []) ≡ claimed rs + 2
claimed_update rs lsn t prev page slot change linked may =
    let r = Update lsn t prev page slot change in
    let own = owed_by_push_kept rs r t refl refl in
    let p : PendingChange = record { lsn = lsn; prev = prev; page = page; slot = slot; change = change } in
    let more = length_push (pending rs t) p in
    let step = owed_push rs r linked refl refl may.active.goes_on.still_open in
    omega (arith, step, own, more, length_push rs r)

pub claimed_comp : (rs : List Record) (lsn t prev undo_next page slot : ℕ) (change : Change)
    → let r = Comp lsn t prev undo_next page slot change in IsLinked rs → MayFollow rs r
    → claimed (rs ++ r ∷ []) ≡ claimed rs
claimed_comp rs lsn t prev undo_next page slot change linked may =
    let r = Comp lsn t prev undo_next page slot change in
    let own = owed_by_push_kept rs r t refl refl in
    let fewer = length-without_last (pending rs t) (some_from_last (pending rs t) _ may.1) in
    let step = owed_push rs r linked refl refl may.0.still_open in
    omega (arith, step, own, fewer, length_push rs r)

pub claimed_abort : (rs : List Record) (lsn t prev : ℕ) → IsLinked rs → MayFollow rs (Abort lsn t prev)
    → claimed (rs ++ Abort lsn t prev ∷ []) ≡ claimed rs
claimed_abort rs lsn t prev linked may =
    let r = Abort lsn t prev in
    let before : owed_by rs t ≡ length (pending rs t) + 2 = ap (λ b. length (pending rs t) + cond b 1 2) may.active in
    let after = owed_by_push_own rs r t refl ∙ ap (λ b. length (pending rs t) + cond (b || true) 1 2) may.active in
    let step = owed_push rs r linked refl refl may.goes_on.still_open in
    omega (arith, step, before, after, length_push rs r)

pub claimed_commit : (rs : List Record) (lsn t prev : ℕ) → IsLinked rs → MayFollow rs (Commit lsn t prev)
    → claimed (rs ++ Commit lsn t prev ∷ []) + length (pending rs t) + 1 ≡ claimed rs
claimed_commit rs lsn t prev linked may =
    let r = Commit lsn t prev in
    let before : owed_by rs t ≡ length (pending rs t) + 2 = ap (λ b. length (pending rs t) + cond b 1 2) may.active in
    let step = owed_push_last rs r linked refl refl may.goes_on.still_open in
    omega (arith, step, before, length_push rs r)

pub claimed_end : (rs : List Record) (lsn t prev : ℕ) → IsLinked rs → MayFollow rs (End lsn t prev)
    → claimed (rs ++ End lsn t prev ∷ []) ≤ claimed rs
claimed_end rs lsn t prev linked may =
    let r = End lsn t prev in
    let one : (b : Bool) → 1 ≤ cond b 1 2 = elim [ true ↦ omega arith | false ↦ omega arith ] in
    let step = owed_push_last rs r linked refl refl may.0.still_open in
    omega (arith, step, one (is_rolling rs t), length_push rs r)

-- a record of no transaction
pub claimed_aside : (rs : List Record) (r : Record) → IsLinked rs → begun_by r ≡ None → is_last r ≡ false → txn_of r ≡ 0
    → claimed (rs ++ r ∷ []) ≡ claimed rs + 1
claimed_aside rs r linked none more no_txn =
    let after = owed_by (rs ++ r ∷ []) in
    let others = λ (o : ℕ) (apart : o ≢ 0). owed_by_push_other rs r o (λ same. apart (same ∙ no_txn)) in
    let away = not_among (is_open rs) 0 (zero_not_open rs linked) (begun rs) in
    let same = ap (sum_by after) (open_in_push_same rs r none more)
    ∙ sum_agree_but 0 after (owed_by rs) others (open_in rs) away in
    omega (arith, same, length_push rs r)

-- the room that a record needs
abbrev pub needs : Record → ℕ
needs (Begin lsn t) = 3
needs (Update lsn t prev page slot change) = 2
needs (BeginChkpt lsn) = 1
needs (ChkptPages lsn begin pages) = 1
needs (ChkptTxns lsn begin t state last undo) = 1
needs (EndChkpt lsn begin redo) = 1
needs (Extend lsn pages) = 1
needs other = 0

pub claimed_push : (rs : List Record) (r : Record) → IsLinked rs → MayFollow rs r
    → claimed (rs ++ r ∷ []) ≤ claimed rs + needs r
claimed_push rs (Begin lsn t) linked may = le_of_eq (claimed_begin rs lsn t linked may)
claimed_push rs (Update lsn t prev page slot change) linked may =
    le_of_eq (claimed_update rs lsn t prev page slot change linked may)
claimed_push rs (Comp lsn t prev undo_next page slot change) linked may =
    omega (arith, claimed_comp rs lsn t prev undo_next page slot change linked may)
claimed_push rs (Commit lsn t prev) linked may = omega (arith, claimed_commit rs lsn t prev linked may)
claimed_push rs (Abort lsn t prev) linked may = omega (arith, claimed_abort rs lsn t prev linked may)
claimed_push rs (End lsn t prev) linked may = omega (arith, claimed_end rs lsn t prev linked may)
claimed_push rs (BeginChkpt lsn) linked may = le_of_eq (claimed_aside rs (BeginChkpt lsn) linked refl refl refl)
claimed_push rs (ChkptPages lsn begin pages) linked may =
    le_of_eq (claimed_aside rs (ChkptPages lsn begin pages) linked refl refl refl)
claimed_push rs (ChkptTxns lsn begin t state last undo) linked may =
    le_of_eq (claimed_aside rs (ChkptTxns lsn begin t state last undo) linked refl refl refl)
claimed_push rs (EndChkpt lsn begin redo) linked may =
    le_of_eq (claimed_aside rs (EndChkpt lsn begin redo) linked refl refl refl)
claimed_push rs (Extend lsn pages) linked may =
    le_of_eq (claimed_aside rs (Extend lsn pages) linked refl refl refl)
