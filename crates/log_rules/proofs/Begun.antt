-- The numbers of the transactions of a linked log.
use Rattle.std.proofs.Common.{◌≡◌, ℕ, zero, suc, ◌+◌, ◌<◌, ◌≤◌, ◌⊎◌, true, false, ◌&&◌, not, eqb, List, [], ◌∷◌, ◌++◌}
use Rattle.std.proofs.Common.{length, sym, refl, ap, subst, ◌∙◌, inl, inr, arith, eq-eqb, eqb-true, true≢false}
use Rattle.std.specs.Prelude.{Some, None}
use Rattle.std.specs.List.{list_any, range_with_len}
use Rattle.std.specs.List.Sorted.{IsStrictlyIncreasing}
use Rattle.std.specs.Option.{option_to_list}
use Rattle.std.proofs.lemmas.Bool.{and_parts, or_right, cases_Bool, cases_eq, or_cases}
use Rattle.std.proofs.lemmas.List.{map-id, length_push}
use Rattle.std.proofs.lemmas.List.FromFn.{get_or-range_with_len, length-range_with_len, map-range_with_len_more}
use Rattle.std.proofs.lemmas.List.Kept.{IsStrictlyIncreasing-filter}
use Rattle.log_records.specs.declared.record.Record.{Record}
use Rattle.log_records.specs.declared.record.Record.TheVariants.{Begin, Update, Comp, Commit, Abort, End, BeginChkpt}
use Rattle.log_records.specs.declared.record.Record.TheVariants.{ChkptPages, ChkptTxns, EndChkpt, Extend}
use Rattle.log_rules.specs.Transactions.{begun, begun_by, is_last, is_open, open_in, records_of, txn_of}
use Rattle.log_rules.specs.Linked.{IsLinked, MayFollow}
use Rattle.log_rules.proofs.Histories.{along_linked}
use Rattle.log_rules.proofs.Filters.{filter_some}
use Rattle.log_rules.proofs.Pushes.{begun_push, begun_push_none, has_begun, has_begun_push_begin, has_begun_push_none}
use Rattle.log_rules.proofs.Pushes.{has_begun_push_other, records_of_push_other}

-- ---- a record that may follow begins the next transaction, or is one of an open transaction, or of none

abbrev pub BeginsNext : List Record → Record → Type 0
BeginsNext rs r = (begun_by r ≡ Some (txn_of r)) × (txn_of r ≡ length (begun rs) + 1)

abbrev pub GoesOnOpen : List Record → Record → Type 0
GoesOnOpen rs r = (begun_by r ≡ None) × (is_open rs (txn_of r) ≡ true)

-- a record of a checkpoint
abbrev pub IsAside : Record → Type 0
IsAside r = (begun_by r ≡ None) × (txn_of r ≡ 0)

pub begins_or_goes_on : (rs : List Record) (r : Record) → MayFollow rs r
    → BeginsNext rs r ⊎ (GoesOnOpen rs r ⊎ IsAside r)
begins_or_goes_on rs (Begin lsn t) may = inl (refl, may.next)
begins_or_goes_on rs (Update lsn t prev page slot change) may = inr (inl (refl, may.active.goes_on.still_open))
begins_or_goes_on rs (Comp lsn t prev undo_next page slot change) may = inr (inl (refl, may.0.still_open))
begins_or_goes_on rs (Commit lsn t prev) may = inr (inl (refl, may.goes_on.still_open))
begins_or_goes_on rs (Abort lsn t prev) may = inr (inl (refl, may.goes_on.still_open))
begins_or_goes_on rs (End lsn t prev) may = inr (inl (refl, may.0.still_open))
begins_or_goes_on rs (BeginChkpt lsn) may = inr (inr (refl, refl))
begins_or_goes_on rs (ChkptPages lsn begin pages) may = inr (inr (refl, refl))
begins_or_goes_on rs (ChkptTxns lsn begin t state last undo) may = inr (inr (refl, refl))
begins_or_goes_on rs (EndChkpt lsn begin redo) may = inr (inr (refl, refl))
begins_or_goes_on rs (Extend lsn pages) may = inr (inr (refl, refl))

pub begins_its : (r : Record) (u : ℕ) → begun_by r ≡ Some u → txn_of r ≡ u
begins_its (Begin lsn t) u begins = cc
begins_its _ u begins = cc

-- ---- the transactions are numbered from 1 on, as they begin

abbrev CountsUp : List ℕ → Type 0
CountsUp ts = ts ≡ range_with_len 1 (length ts)

CountsUp_push : (ts : List ℕ) (t : ℕ) → t ≡ length ts + 1 → CountsUp ts → CountsUp (ts ++ t ∷ [])
CountsUp_push ts t next up =
    let count = length ts in
    let more : range_with_len 1 (count + 1) ≡ range_with_len 1 count ++ t ∷ [] =
    sym (map-id (range_with_len 1 (count + 1))) ∙ map-range_with_len_more (λ n. n) 1 count t (omega arith)
    ∙ ap (λ xs. xs ++ t ∷ []) (map-id (range_with_len 1 count)) in
    ap (λ xs. xs ++ t ∷ []) up ∙ sym more ∙ ap (range_with_len 1) (sym (length_push ts t))

pub begun_is : (rs : List Record) → IsLinked rs → begun rs ≡ range_with_len 1 (length (begun rs))
begun_is = along_linked (λ rs. CountsUp (begun rs)) refl more
  where
    more : (rs : List Record) (r : Record) → IsLinked rs → MayFollow rs r
        → CountsUp (begun rs) → CountsUp (begun (rs ++ r ∷ []))
    more rs r linked may up = elim (begins_or_goes_on rs r may) [
      | inl new ↦
          let pushed = begun_push rs r ∙ ap (λ o. begun rs ++ option_to_list o) new.0 in
          subst CountsUp (sym pushed) (CountsUp_push (begun rs) (txn_of r) new.1 up)
      | inr (inl on) ↦ subst CountsUp (sym (begun_push_none rs r on.0)) up
      | inr (inr aside) ↦ subst CountsUp (sym (begun_push_none rs r aside.0)) up
    ]

pub begun-IsStrictlyIncreasing : (rs : List Record) → IsLinked rs → IsStrictlyIncreasing (begun rs)
begun-IsStrictlyIncreasing rs linked =
    subst IsStrictlyIncreasing (sym (begun_is rs linked)) (rising (length (begun rs)))
  where
    rising : (n : ℕ) → IsStrictlyIncreasing (range_with_len 1 n)
    rising n k lt =
        let long = length-range_with_len 1 n in
        let below : k + 1 < n = omega (arith, long) in
        let here = get_or-range_with_len 1 n k 0 (omega arith) in
        let next = get_or-range_with_len 1 n (k + 1) 0 below in
        omega (arith, here, next)

pub open_in-IsStrictlyIncreasing : (rs : List Record) → IsLinked rs → IsStrictlyIncreasing (open_in rs)
open_in-IsStrictlyIncreasing rs linked =
    IsStrictlyIncreasing-filter (is_open rs) (begun rs) (begun-IsStrictlyIncreasing rs linked)

-- ---- the numbers that have begun

pub any-range_with_len : (a n t : ℕ) → list_any (λ b. eqb b t) (range_with_len a n) ≡ true → (a ≤ t) × (t < a + n)
any-range_with_len a zero t found = cc
any-range_with_len a (suc n) t found =
    elim (or_cases (eqb a t) (list_any (λ b. eqb b t) (range_with_len (a + 1) n)) found) [
      | inl here ↦ let same = eqb-true a t here in omega arith
      | inr there ↦ let within = any-range_with_len (a + 1) n t there in omega arith
    ]

-- the transactions that began are 1, 2, .. up to their count
pub begun_bounds : (rs : List Record) → IsLinked rs → (t : ℕ) → has_begun rs t ≡ true
    → (1 ≤ t) × (t ≤ length (begun rs))
begun_bounds rs linked t began =
    let among = sym (ap (list_any (λ b. eqb b t)) (begun_is rs linked)) ∙ began in
    let within = any-range_with_len 1 (length (begun rs)) t among in
    omega arith

-- the next one has not begun
pub next_is_new : (rs : List Record) → IsLinked rs → (t : ℕ) → length (begun rs) < t → has_begun rs t ≡ false
next_is_new rs linked t past =
    elim (cases_Bool (has_begun rs t)) [
      | inl began ↦ let within = begun_bounds rs linked t began in absurd (omega arith)
      | inr new ↦ new
    ]

-- an open transaction began
pub open_has_begun : (rs : List Record) (t : ℕ) → is_open rs t ≡ true → has_begun rs t ≡ true
open_has_begun rs t still = (and_parts (has_begun rs t) (not (list_any is_last (records_of rs t))) still).0

-- ---- a transaction has records exactly if it began

-- 0 is no transaction
pub zero_not_begun : (rs : List Record) → IsLinked rs → has_begun rs 0 ≡ false
zero_not_begun rs linked =
    elim (cases_Bool (has_begun rs 0)) [
      | inl began ↦ let within = begun_bounds rs linked 0 began in absurd (omega arith)
      | inr new ↦ new
    ]

pub zero_not_open : (rs : List Record) → IsLinked rs → is_open rs 0 ≡ false
zero_not_open rs linked = ap (λ b. b && not (list_any is_last (records_of rs 0))) (zero_not_begun rs linked)

-- with a record that may follow, its transaction has begun
begun_now : (rs : List Record) (r : Record) → MayFollow rs r → 1 ≤ txn_of r
    → has_begun (rs ++ r ∷ []) (txn_of r) ≡ true
begun_now rs r may some =
    let t = txn_of r in
    elim (begins_or_goes_on rs r may) [
      | inl new ↦
          has_begun_push_begin rs r t t new.0 ∙ or_right (has_begun rs t) (eqb t t) (eq-eqb t t refl)
      | inr (inl on) ↦ has_begun_push_none rs r t on.0 ∙ open_has_begun rs t on.1
      | inr (inr aside) ↦ let zero = aside.1 in absurd (omega (arith, zero, some))
    ]

pub none_before_begin : (rs : List Record) → IsLinked rs → (t : ℕ) → 1 ≤ t → has_begun rs t ≡ false
    → records_of rs t ≡ []
none_before_begin = along_linked (λ rs. (t : ℕ) → 1 ≤ t → has_begun rs t ≡ false → records_of rs t ≡ [])
    (λ t some new. refl) more
  where
    more : (rs : List Record) (r : Record) → IsLinked rs → MayFollow rs r
        → ((t : ℕ) → 1 ≤ t → has_begun rs t ≡ false → records_of rs t ≡ [])
        → (t : ℕ) → 1 ≤ t → has_begun (rs ++ r ∷ []) t ≡ false → records_of (rs ++ r ∷ []) t ≡ []
    more rs r linked may before t some new = elim (cases_eq (txn_of r) t) [
      | inl same ↦
          let its = begun_now rs r may (subst (λ n. 1 ≤ n) (sym same) some) in
          absurd (true≢false (sym (subst (λ n. has_begun (rs ++ r ∷ []) n ≡ true) same its) ∙ new))
      | inr other ↦ records_of_push_other rs r t other ∙ before t some (sym (has_begun_push_other rs r t other) ∙ new)
    ]

pub some_from_begin : (rs : List Record) (t : ℕ) → has_begun rs t ≡ true → 0 < length (records_of rs t)
some_from_begin rs t began =
    filter_some begun_by (λ b. eqb b t) (λ r. eqb (txn_of r) t) its rs began
  where
    its : (r : Record) (u : ℕ) → begun_by r ≡ Some u → eqb u t ≡ true → eqb (txn_of r) t ≡ true
    its r u begins is = ap (λ n. eqb n t) (begins_its r u begins) ∙ is
