-- Each record of a transaction has one receipt: as many receipts as records, no two of one LSN.
use Rattle.std.proofs.Common.{ℕ, ◌≡◌, ◌≢◌, ◌+◌, ◌<◌, ◌≤◌, Bool, true, false, List, [], ◌∷◌}
use Rattle.std.proofs.Common.{length, take, drop, ◌-◌, zero-add, map, filter, slice_index_or, slice_get, arith, refl, sym, suc, zero}
use Rattle.std.proofs.Common.{◌∙◌, ap, not, subst, cond, inl, inr, IsSomeAnd, Option, None, Some}
use Rattle.std.specs.List.{All, sum_by}
use Rattle.std.proofs.lemmas.Bool.{cases_lt}
use Rattle.std.proofs.lemmas.Bool.Decides.{eqb_tells}
use Rattle.std.proofs.lemmas.List.Elements.{All-append, All-cons, All-head, All-nil, All-tail, All-weaker}
use Rattle.std.proofs.lemmas.List.{get_or-drop, length-drop, length-map, take-append-drop}
use Rattle.std.proofs.lemmas.List.Sums.{length-filter, sum_by-append, sum_by-cons}
use Rattle.log_records.specs.declared.record.Record.{Record}
use Rattle.log_records.specs.declared.record.Record.TheVariants as log
use Rattle.log_records.specs.Log.{lsn_of}
use Rattle.settlement.specs.Counts.{is_change, is_of_txn, is_update, txn_records_in, written_in}
use Rattle.settlement.specs.Receipt.{IsChangeOf, IsLogged, IsRecordOf, IsStepOf, IsUpdateOf, Stands, is_read}
use Rattle.settlement.specs.Receipt.{logged_step, position, step_of, times, written}
use Rattle.settlement.specs.Session.{AllStand}
use Rattle.settlement.specs.Sessions.{AreApart, all_receipts, changed}
use Rattle.settlement.specs.declared.receipt.Receipt.{Receipt}
use Rattle.settlement.specs.declared.receipt.Receipt.TheVariants.{Changed, Stepped, Read}
use Rattle.settlement.specs.declared.receipt.StepReceipt.{StepReceipt}
use Rattle.settlement.specs.declared.receipt.TxnStep.{TxnStep}
use Rattle.settlement.proofs.Kept.{logged_of}
use Rattle.settlement.proofs.Sessions.{times-cons, times_all, times_one}

-- how many of the LSNs are those of the records from a place on
abbrev pub found : List ℕ → List Record → ℕ → ℕ
found lsns [] s = 0
found lsns (r ∷ rs) s = times (lsn_of s) lsns + found lsns rs (s + 1)

found_none : (rs : List Record) (s : ℕ) → found [] rs s ≡ 0
found_none [] s = refl
found_none (r ∷ rs) s = let rest = found_none rs (s + 1) in omega arith

found_more : (lsn : ℕ) (lsns : List ℕ) (rs : List Record) (s : ℕ)
    → found (lsn ∷ lsns) rs s ≡ found (lsn ∷ []) rs s + found lsns rs s
found_more lsn lsns [] s = refl
found_more lsn lsns (r ∷ rs) s =
    let rest = found_more lsn lsns rs (s + 1) in
    let all = times-cons (lsn_of s) lsn lsns in
    let one = times-cons (lsn_of s) lsn [] in
    let none : times (lsn_of s) [] ≡ 0 = refl in
    omega arith

-- an LSN before the place is not found, and one of a record is found once
times_other : (x y : ℕ) → x ≢ y → times x (y ∷ []) ≡ 0
times_other x y other =
    elim (eqb_tells y x) [
      | inl (is, same) ↦ absurd (other (sym same))
      | inr (is, apart) ↦ times-cons x y [] ∙ ap (λ (b : Bool). cond b 1 0 + 0) is
    ]

found_before : (k : ℕ) (rs : List Record) (s : ℕ) → k < s → found (lsn_of k ∷ []) rs s ≡ 0
found_before k [] s before = refl
found_before k (r ∷ rs) s before =
    let here = times_other (lsn_of s) (lsn_of k) (λ e. absurd (omega (arith, e))) in
    let rest = found_before k rs (s + 1) (omega arith) in
    omega arith

found_once : (k : ℕ) (rs : List Record) (s : ℕ) → s ≤ k → k < s + length rs
    → found (lsn_of k ∷ []) rs s ≡ 1
found_once k [] s from within = absurd (omega arith)
found_once k (r ∷ rs) s from within =
    elim (cases_lt s k) [
      | inl behind ↦
          let here = times_other (lsn_of s) (lsn_of k) (λ e. absurd (omega (arith, e))) in
          let rest = found_once k rs (s + 1) (omega arith) (omega arith) in
          omega arith
      | inr at ↦
          let same : k ≡ s = omega arith in
          let here : times (lsn_of s) (lsn_of k ∷ []) ≡ 1 =
          subst (λ (n : ℕ). times (lsn_of n) (lsn_of k ∷ []) ≡ 1) same (times_one (lsn_of k)) in
          let rest = found_before k rs (s + 1) (omega arith) in
          omega arith
    ]

-- each of them is found
pub found_all : (lsns : List ℕ) (rs : List Record) (s : ℕ)
    → All (λ lsn. (k : ℕ) × (lsn ≡ lsn_of k) × (s ≤ k) × (k < s + length rs)) lsns
    → found lsns rs s ≡ length lsns
found_all [] rs s all = found_none rs s
found_all (lsn ∷ lsns) rs s all =
    let P : ℕ → Type 0 = λ x. (k : ℕ) × (x ≡ lsn_of k) × (s ≤ k) × (k < s + length rs) in
    let head = All-head P lsn lsns all in
    let one : found (lsn ∷ []) rs s ≡ 1 =
    subst (λ (x : ℕ). found (x ∷ []) rs s ≡ 1) (sym head.1) (found_once head.0 rs s head.2 head.3) in
    let rest = found_all lsns rs s (All-tail P lsn lsns all) in
    let more = found_more lsn lsns rs s in
    omega arith

txn_records-cons : (r : Record) (rs : List Record)
    → txn_records_in (r ∷ rs) ≡ cond (is_of_txn r) 1 0 + txn_records_in rs
txn_records-cons r rs = sum_by-cons (λ x. cond (is_of_txn x) 1 0) r rs

-- at no record more are found than it is of a transaction
abbrev AreFew : List ℕ → List Record → ℕ → Type 0
AreFew lsns rs s = (i : ℕ) (d : Record) → i < length rs
    → times (lsn_of (s + i)) lsns ≤ cond (is_of_txn (slice_index_or rs i d)) 1 0

few_rest : (lsns : List ℕ) (r : Record) (rs : List Record) (s : ℕ)
    → AreFew lsns (r ∷ rs) s → AreFew lsns rs (s + 1)
few_rest lsns r rs s few i d within =
    let same : s + suc i ≡ s + 1 + i = omega arith in
    subst (λ (n : ℕ). times (lsn_of n) lsns ≤ cond (is_of_txn (slice_index_or rs i d)) 1 0) same
    (few (suc i) d (omega arith))

few_here : (lsns : List ℕ) (r : Record) (rs : List Record) (s : ℕ) → AreFew lsns (r ∷ rs) s
    → times (lsn_of s) lsns ≤ cond (is_of_txn r) 1 0
few_here lsns r rs s few =
    let same : s + 0 ≡ s = omega arith in
    subst (λ (n : ℕ). times (lsn_of n) lsns ≤ cond (is_of_txn r) 1 0) same
    (few 0 r (omega arith))

found_few : (lsns : List ℕ) (rs : List Record) (s : ℕ) → AreFew lsns rs s
    → found lsns rs s ≤ txn_records_in rs
found_few lsns [] s few = omega arith
found_few lsns (r ∷ rs) s few =
    let here = few_here lsns r rs s few in
    let rest = found_few lsns rs (s + 1) (few_rest lsns r rs s few) in
    let count = txn_records-cons r rs in
    omega arith

-- so where as many are found as there are records of transactions, each of them is found
each_found : (lsns : List ℕ) (rs : List Record) (s i : ℕ) (d : Record) → AreFew lsns rs s
    → found lsns rs s ≡ txn_records_in rs → i < length rs
    → times (lsn_of (s + i)) lsns ≡ cond (is_of_txn (slice_index_or rs i d)) 1 0
each_found lsns [] s i d few equal within = absurd (omega arith)
each_found lsns (r ∷ rs) s zero d few equal within =
    let same : s + 0 ≡ s = omega arith in
    let here = few_here lsns r rs s few in
    let rest = found_few lsns rs (s + 1) (few_rest lsns r rs s few) in
    let count = txn_records-cons r rs in
    subst (λ (n : ℕ). times (lsn_of n) lsns ≡ cond (is_of_txn r) 1 0) (sym same) (omega arith)
each_found lsns (r ∷ rs) s (suc i) d few equal within =
    let same : s + suc i ≡ s + 1 + i = omega arith in
    let here = few_here lsns r rs s few in
    let next = few_rest lsns r rs s few in
    let rest = found_few lsns rs (s + 1) next in
    let count = txn_records-cons r rs in
    subst (λ (n : ℕ). times (lsn_of n) lsns ≡ cond (is_of_txn (slice_index_or rs i d)) 1 0)
    (sym same) (each_found lsns rs (s + 1) i d next (omega arith) (omega arith))

-- ---- the LSNs of the records that receipts are of

-- what a record that stands at the LSN of a receipt is
pub here_is : (q : Record → Bool) (b : Bool) (rs : List Record) (k : ℕ) (P : Record → Type 0)
    → ((r : Record) → P r → q r ≡ b) → IsSomeAnd (slice_get rs k) P
    → (k < length rs) × ((d : Record) → q (slice_index_or rs k d) ≡ b)
here_is q b [] k P so there = elim there [ ]
here_is q b (r ∷ rs) zero P so there = (omega arith, λ d. so r there)
here_is q b (r ∷ rs) (suc k) P so there =
    let rest = here_is q b rs k P so there in
    (let h = rest.0 in omega arith, rest.1)

update_is_of_txn : (txn page slot : ℕ) (IsSuch : _ → Type 0) (r : Record)
    → IsUpdateOf txn page slot IsSuch r → is_of_txn r ≡ true
update_is_of_txn txn page slot IsSuch (log.Update lsn t prev p s change) is = refl
update_is_of_txn txn page slot IsSuch other is = elim is [ ]

-- a record of a step is of a transaction, and no Update
step_is_of_txn : (r : Record) (s : TxnStep) → step_of r ≡ Some s → is_of_txn r ≡ true
step_is_of_txn (log.Begin lsn txn) s is = refl
step_is_of_txn (log.Update lsn txn prev page slot change) s is = refl
step_is_of_txn (log.Comp lsn txn prev undo_next page slot change) s is = refl
step_is_of_txn (log.Commit lsn txn prev) s is = refl
step_is_of_txn (log.Abort lsn txn prev) s is = refl
step_is_of_txn (log.End lsn txn prev) s is = refl
step_is_of_txn (log.BeginChkpt lsn) s is = cc
step_is_of_txn (log.ChkptPages lsn begin pages) s is = cc
step_is_of_txn (log.ChkptTxns lsn begin txn state last undo_next) s is = cc
step_is_of_txn (log.EndChkpt lsn begin redo) s is = cc
step_is_of_txn (log.Extend lsn pages) s is = cc

step_is_no_update : (r : Record) (s : TxnStep) → step_of r ≡ Some s → is_update r ≡ false
step_is_no_update (log.Update lsn txn prev page slot change) s is = cc
step_is_no_update (log.Begin lsn txn) s is = refl
step_is_no_update (log.Comp lsn txn prev undo_next page slot change) s is = refl
step_is_no_update (log.Commit lsn txn prev) s is = refl
step_is_no_update (log.Abort lsn txn prev) s is = refl
step_is_no_update (log.End lsn txn prev) s is = refl
step_is_no_update (log.BeginChkpt lsn) s is = refl
step_is_no_update (log.ChkptPages lsn begin pages) s is = refl
step_is_no_update (log.ChkptTxns lsn begin txn state last undo_next) s is = refl
step_is_no_update (log.EndChkpt lsn begin redo) s is = refl
step_is_no_update (log.Extend lsn pages) s is = refl

record_is_of_txn : (x : Receipt) (r : Record) → IsRecordOf x r → is_of_txn r ≡ true
record_is_of_txn (Changed it) r is =
    update_is_of_txn it.txn it.page it.slot (IsChangeOf it.kind it.number) r is
record_is_of_txn (Stepped it) r is = step_is_of_txn r (logged_step it.step) is.1
record_is_of_txn (Read it) r is = elim is [ ]

-- a record of a transaction stands at the LSN
abbrev IsTxnRecordAt : List Record → ℕ → Type 0
IsTxnRecordAt rs lsn = (k : ℕ) × (lsn ≡ lsn_of k) × (k < length rs)
    × ((d : Record) → is_of_txn (slice_index_or rs k d) ≡ true)

stands_record : (rs : List Record) (forced_end : ℕ) (before : List Receipt) (x : Receipt)
    → Stands rs forced_end before x → is_read x ≡ false → IsTxnRecordAt rs (position x)
stands_record rs forced_end before x stands is =
    let there = (logged_of rs forced_end x is stands.holds).there in
    let at = here_is is_of_txn true rs there.0 (IsRecordOf x) (record_is_of_txn x) there.2 in
    (there.0, there.1, at.0, at.1)

written_at : (P : ℕ → Type 0) (x : Receipt) (xs : List Receipt) (b : Bool) → is_read x ≡ b
    → (is_read x ≡ false → P (position x)) → All P (written xs)
    → All P (map position (cond (not b) (x ∷ filter (λ y. not (is_read y)) xs) (filter (λ y. not (is_read y)) xs)))
written_at P x xs false is here rest = All-cons P (position x) (written xs) (here is) rest
written_at P x xs true is here rest = rest

written_all : (P : ℕ → Type 0) (xs : List Receipt)
    → All (λ x. is_read x ≡ false → P (position x)) xs → All P (written xs)
written_all P [] all = All-nil P
written_all P (x ∷ xs) all =
    let Q : Receipt → Type 0 = λ y. is_read y ≡ false → P (position y) in
    written_at P x xs (is_read x) refl (All-head Q x xs all)
    (written_all P xs (All-tail Q x xs all))

pub all_flat : (Q : Receipt → Type 0) (sessions : List (List Receipt)) → All (All Q) sessions
    → All Q (all_receipts sessions)
all_flat Q [] all = All-nil Q
all_flat Q (xs ∷ sessions) all =
    All-append Q xs (all_receipts sessions) (All-head (All Q) xs sessions all)
    (all_flat Q sessions (All-tail (All Q) xs sessions all))

written_sum : (sessions : List (List Receipt))
    → written_in (all_receipts sessions) ≡ sum_by written_in sessions
written_sum [] = refl
written_sum (xs ∷ sessions) =
    let both = sum_by-append (λ x. cond (not (is_read x)) 1 0) xs (all_receipts sessions) in
    let more = sum_by-cons written_in xs sessions in
    let rest = written_sum sessions in
    omega arith

pub length-written : (xs : List Receipt) → length (written xs) ≡ written_in xs
length-written xs =
    length-map (filter (λ x. not (is_read x)) xs) position ∙ length-filter (λ x. not (is_read x)) xs

few_written : (rs : List Record) (sessions : List (List Receipt))
    → All (IsTxnRecordAt rs) (written (all_receipts sessions))
    → AreApart (written (all_receipts sessions)) → AreFew (written (all_receipts sessions)) rs 0
few_written rs sessions all apart i d within =
    let xs = all_receipts sessions in
    let lsn = lsn_of (0 + i) in
    let few = apart lsn in
    elim (cases_lt 0 (times lsn (written xs))) [
      | inl some ↦
          let here = times_all (IsTxnRecordAt rs) lsn (written xs) all some in
          let at = here.1 in
          let same : here.0 ≡ i = omega arith in
          let is : is_of_txn (slice_index_or rs i d) ≡ true =
          subst (λ (n : ℕ). is_of_txn (slice_index_or rs n d) ≡ true) same (here.3 d) in
          subst (λ (b : Bool). times lsn (written xs) ≤ cond b 1 0) (sym is) (omega arith)
      | inr none ↦ omega arith
    ]

-- the records of a log are its first ones, and the others
pub txn_records_split : (b : ℕ) (rs : List Record)
    → txn_records_in rs ≡ txn_records_in (take b rs) + txn_records_in (drop b rs)
txn_records_split b rs =
    ap txn_records_in (sym (take-append-drop b rs))
    ∙ sum_by-append (λ r. cond (is_of_txn r) 1 0) (take b rs) (drop b rs)

-- each record of a transaction behind the log's first ones has one receipt
pub one_receipt_each : (rs : List Record) (forced_end b : ℕ) (sessions : List (List Receipt))
    (i : ℕ) (d : Record) → txn_records_in (take b rs) + sum_by written_in sessions ≡ txn_records_in rs
    → All (AllStand rs forced_end) sessions
    → All (λ lsn. lsn_of b ≤ lsn) (written (all_receipts sessions))
    → AreApart (written (all_receipts sessions))
    → b ≤ i → i < length rs → is_of_txn (slice_index_or rs i d) ≡ true
    → times (lsn_of i) (written (all_receipts sessions)) ≡ 1
one_receipt_each rs forced_end b sessions i d add_up stand newer apart from within is =
    let xs = all_receipts sessions in
    let behind = drop b rs in
    let long = length-drop b rs in
    let Q : Receipt → Type 0 = λ x. is_read x ≡ false → IsTxnRecordAt rs (position x) in
    let each : All (All Q) sessions =
    All-weaker (AllStand rs forced_end) (All Q)
    (λ ys all k e lt. stands_record rs forced_end (take k ys) (slice_index_or ys k e) (all k e lt))
    sessions stand in
    let records = written_all (IsTxnRecordAt rs) xs (all_flat Q sessions each) in
    let there : All (λ lsn. (k : ℕ) × (lsn ≡ lsn_of k) × (b ≤ k) × (k < b + length behind)) (written xs) =
    λ k e lt.
    let at = records k e lt in
    let low = newer k e lt in
    (at.0, at.1, omega (arith, low, at.1), (let h = at.2 in omega (arith, h, long, low, at.1))) in
    let split = txn_records_split b rs in
    let sum : length (written xs) ≡ sum_by written_in sessions = length-written xs ∙ written_sum sessions in
    let all = found_all (written xs) behind b there in
    let count : found (written xs) behind b ≡ txn_records_in behind = omega (arith, all, sum, add_up, split) in
    let place : (k : ℕ) → slice_index_or behind k d ≡ slice_index_or rs (b + k) d = λ k. get_or-drop b rs k d in
    let few : AreFew (written xs) behind b = λ k e lt.
    subst (λ (r : Record). times (lsn_of (b + k)) (written xs) ≤ cond (is_of_txn r) 1 0)
    (sym (get_or-drop b rs k e))
    (subst (λ (n : ℕ). times (lsn_of n) (written xs) ≤ cond (is_of_txn (slice_index_or rs (b + k) e)) 1 0)
    (zero-add (b + k)) (few_written rs sessions records apart (b + k) e (omega (arith, lt, long)))) in
    let here : b + (i - b) ≡ i = omega (arith, from) in
    subst (λ (n : ℕ). times (lsn_of n) (written xs) ≡ 1) here
    (each_found (written xs) behind b (i - b) d few count (omega (arith, long, from, within))
    ∙ ap (λ (b : Bool). cond b 1 0)
    (ap is_of_txn (place (i - b) ∙ ap (λ (n : ℕ). slice_index_or rs n d) here) ∙ is))

-- ---- of an Update it is that of a change

-- a receipt that stands, of an Update, is of a change
stands_change : (rs : List Record) (forced_end : ℕ) (before : List Receipt) (x : Receipt) (i : ℕ) (d : Record)
    → Stands rs forced_end before x → is_update (slice_index_or rs i d) ≡ true → is_read x ≡ false
    → position x ≡ lsn_of i → is_change x ≡ true
stands_change rs forced_end before (Changed it) i d stands update is at = refl
stands_change rs forced_end before (Read it) i d stands update is at = cc
stands_change rs forced_end before (Stepped it) i d stands update is at =
    let there = (logged_of rs forced_end (Stepped it) is stands.holds).there in
    let step = here_is is_update false rs there.0 (IsStepOf it.txn it.step)
    (λ r s. step_is_no_update r (logged_step it.step) s.1) there.2 in
    let same : there.0 ≡ i = omega (arith, at, there.1) in
    let none : is_update (slice_index_or rs i d) ≡ false =
    subst (λ (n : ℕ). is_update (slice_index_or rs n d) ≡ false) same (step.1 d) in
    let clash : true ≡ false = sym update ∙ none in
    cc

pub changed_among : (lsn : ℕ) (xs : List Receipt) → times lsn (changed xs) ≤ times lsn (written xs)
changed_among lsn [] = omega arith
changed_among lsn (Changed it ∷ xs) =
    let rest = changed_among lsn xs in
    let one = times-cons lsn it.lsn (changed xs) in
    let other = times-cons lsn it.lsn (written xs) in
    omega arith
changed_among lsn (Stepped it ∷ xs) =
    let rest = changed_among lsn xs in
    let other = times-cons lsn it.lsn (written xs) in
    omega arith
changed_among lsn (Read it ∷ xs) = changed_among lsn xs

times_other-cons : (x y : ℕ) (ys : List ℕ) → x ≢ y → times x (y ∷ ys) ≡ times x ys
times_other-cons x y ys other =
    let one = times_other x y other in
    let alone = times-cons x y [] in
    let all = times-cons x y ys in
    let none : times x [] ≡ 0 = refl in
    omega arith

-- where each receipt with this LSN is of a change, it is as often among those of changes
written_among : (lsn : ℕ) (xs : List Receipt)
    → All (λ x. is_read x ≡ false → position x ≡ lsn → is_change x ≡ true) xs
    → times lsn (written xs) ≤ times lsn (changed xs)
written_among lsn [] all = omega arith
written_among lsn (Changed it ∷ xs) all =
    let Q : Receipt → Type 0 = λ x. is_read x ≡ false → position x ≡ lsn → is_change x ≡ true in
    let rest = written_among lsn xs (All-tail Q (Changed it) xs all) in
    let one = times-cons lsn it.lsn (changed xs) in
    let other = times-cons lsn it.lsn (written xs) in
    omega arith
written_among lsn (Stepped it ∷ xs) all =
    let Q : Receipt → Type 0 = λ x. is_read x ≡ false → position x ≡ lsn → is_change x ≡ true in
    let rest = written_among lsn xs (All-tail Q (Stepped it) xs all) in
    let apart : lsn ≢ it.lsn = λ e.
    let clash : false ≡ true = All-head Q (Stepped it) xs all refl (sym e) in cc in
    let other = times_other-cons lsn it.lsn (written xs) apart in
    omega arith
written_among lsn (Read it ∷ xs) all =
    let Q : Receipt → Type 0 = λ x. is_read x ≡ false → position x ≡ lsn → is_change x ≡ true in
    written_among lsn xs (All-tail Q (Read it) xs all)

-- the one receipt of an Update is of a change
pub one_change_each : (rs : List Record) (forced_end : ℕ) (sessions : List (List Receipt)) (i : ℕ) (d : Record)
    → All (AllStand rs forced_end) sessions → is_update (slice_index_or rs i d) ≡ true
    → times (lsn_of i) (written (all_receipts sessions)) ≡ 1
    → times (lsn_of i) (changed (all_receipts sessions)) ≡ 1
one_change_each rs forced_end sessions i d stand update one =
    let xs = all_receipts sessions in
    let Q : Receipt → Type 0 = λ x. is_read x ≡ false → position x ≡ lsn_of i → is_change x ≡ true in
    let each : All (All Q) sessions =
    All-weaker (AllStand rs forced_end) (All Q)
    (λ ys all k e lt is at.
    stands_change rs forced_end (take k ys) (slice_index_or ys k e) i d (all k e lt) update is at)
    sessions stand in
    let low = written_among (lsn_of i) xs (all_flat Q sessions each) in
    let high = changed_among (lsn_of i) xs in
    omega arith

-- an Update is a record of a transaction
pub update_of_txn : (r : Record) → is_update r ≡ true → is_of_txn r ≡ true
update_of_txn (log.Update lsn txn prev page slot change) is = refl
update_of_txn (log.Begin lsn txn) is = refl
update_of_txn (log.Comp lsn txn prev undo_next page slot change) is = refl
update_of_txn (log.Commit lsn txn prev) is = refl
update_of_txn (log.Abort lsn txn prev) is = refl
update_of_txn (log.End lsn txn prev) is = refl
update_of_txn (log.BeginChkpt lsn) is = cc
update_of_txn (log.ChkptPages lsn begin pages) is = cc
update_of_txn (log.ChkptTxns lsn begin txn state last undo_next) is = cc
update_of_txn (log.EndChkpt lsn begin redo) is = cc
update_of_txn (log.Extend lsn pages) is = cc
