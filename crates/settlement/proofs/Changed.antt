-- The receipts of changes are as many as the Updates that a log has got since the run began.
use Rattle.std.proofs.Common.{ℕ, ◌≡◌, ◌+◌, ◌<◌, ◌≤◌, Bool, true, false, List, [], ◌∷◌, map, filter, length, take, drop}
use Rattle.std.proofs.Common.{slice_index_or, arith, refl, sym, suc, ◌-◌, ◌∙◌, ap, subst, cond, inl, inr, count_by}
use Rattle.std.specs.List.{All, sum_by}
use Rattle.std.proofs.lemmas.Bool.{cases_lt}
use Rattle.std.proofs.lemmas.List.Elements.{All-cons, All-head, All-nil, All-tail, All-weaker}
use Rattle.std.proofs.lemmas.List.{get_or-drop, length-drop, length-map, take-append-drop}
use Rattle.std.proofs.lemmas.List.Sums.{length-filter, sum_by-append, sum_by-cons}
use Rattle.log_records.specs.declared.record.Record.{Record}
use Rattle.log_records.specs.declared.record.Record.TheVariants as log
use Rattle.log_records.specs.Log.{lsn_of}
use Rattle.settlement.specs.Counts.{changes_in, is_change, is_update, txn_records_in, updates_in, written_in}
use Rattle.settlement.specs.Receipt.{IsChangeOf, IsUpdateOf, Stands, position, times, written}
use Rattle.settlement.specs.Session.{AllStand}
use Rattle.settlement.specs.Sessions.{AreApart, all_receipts, changed}
use Rattle.settlement.specs.declared.receipt.Receipt.{Receipt}
use Rattle.settlement.specs.declared.receipt.Receipt.TheVariants.{Changed, Stepped, Read}
use Rattle.settlement.proofs.Answered.{all_flat, changed_among, found, found_all, here_is, one_change_each}
use Rattle.settlement.proofs.Answered.{one_receipt_each, update_of_txn}
use Rattle.settlement.proofs.Sessions.{times_all}

-- as many are found as there are records of a sort, where each of these is found once, and no other
found_such : (q : Record → Bool) (lsns : List ℕ) (rs : List Record) (s : ℕ)
    → ((i : ℕ) (d : Record) → i < length rs
    → times (lsn_of (s + i)) lsns ≡ cond (q (slice_index_or rs i d)) 1 0)
    → found lsns rs s ≡ count_by q rs
found_such q lsns [] s each = refl
found_such q lsns (r ∷ rs) s each =
    let same : s + 0 ≡ s = omega arith in
    let here : times (lsn_of s) lsns ≡ cond (q r) 1 0 =
    subst (λ (n : ℕ). times (lsn_of n) lsns ≡ cond (q r) 1 0) same (each 0 r (omega arith)) in
    let rest = found_such q lsns rs (s + 1) (λ i d within.
    let next : s + suc i ≡ s + 1 + i = omega arith in
    subst (λ (n : ℕ). times (lsn_of n) lsns ≡ cond (q (slice_index_or rs i d)) 1 0) next
    (each (suc i) d (omega (arith, within)))) in
    let count : count_by q (r ∷ rs) ≡ cond (q r) 1 0 + count_by q rs =
    sum_by-cons (λ x. cond (q x) 1 0) r rs in
    omega arith

-- ---- an Update stands where a receipt of a change says

abbrev IsUpdateAt : List Record → ℕ → Type 0
IsUpdateAt rs lsn = (k : ℕ) × (lsn ≡ lsn_of k) × (k < length rs)
    × ((d : Record) → is_update (slice_index_or rs k d) ≡ true)

is_an_update : (txn page slot : ℕ) (IsSuch : _ → Type 0) (r : Record) → IsUpdateOf txn page slot IsSuch r
    → is_update r ≡ true
is_an_update txn page slot IsSuch (log.Update lsn t prev p s change) is = refl
is_an_update txn page slot IsSuch other is = elim is [ ]

stands_update : (rs : List Record) (forced_end : ℕ) (before : List Receipt) (x : Receipt)
    → Stands rs forced_end before x → is_change x ≡ true → IsUpdateAt rs (position x)
stands_update rs forced_end before (Changed it) stands is =
    let there = stands.holds.there in
    let at = here_is is_update true rs there.0 (IsUpdateOf it.txn it.page it.slot (IsChangeOf it.kind it.number))
    (is_an_update it.txn it.page it.slot (IsChangeOf it.kind it.number)) there.2 in
    (there.0, there.1, at.0, at.1)
stands_update rs forced_end before (Stepped it) stands is = cc
stands_update rs forced_end before (Read it) stands is = cc

changed_all : (P : ℕ → Type 0) (xs : List Receipt)
    → All (λ x. is_change x ≡ true → P (position x)) xs → All P (changed xs)
changed_all P [] all = All-nil P
changed_all P (Changed it ∷ xs) all =
    let Q : Receipt → Type 0 = λ y. is_change y ≡ true → P (position y) in
    All-cons P it.lsn (changed xs) (All-head Q (Changed it) xs all refl)
    (changed_all P xs (All-tail Q (Changed it) xs all))
changed_all P (Stepped it ∷ xs) all =
    let Q : Receipt → Type 0 = λ y. is_change y ≡ true → P (position y) in
    changed_all P xs (All-tail Q (Stepped it) xs all)
changed_all P (Read it ∷ xs) all =
    let Q : Receipt → Type 0 = λ y. is_change y ≡ true → P (position y) in
    changed_all P xs (All-tail Q (Read it) xs all)

updates_told : (rs : List Record) (forced_end : ℕ) (sessions : List (List Receipt))
    → All (AllStand rs forced_end) sessions → All (IsUpdateAt rs) (changed (all_receipts sessions))
updates_told rs forced_end sessions stand =
    let Q : Receipt → Type 0 = λ x. is_change x ≡ true → IsUpdateAt rs (position x) in
    let each : All (All Q) sessions =
    All-weaker (AllStand rs forced_end) (All Q)
    (λ ys all k e lt. stands_update rs forced_end (take k ys) (slice_index_or ys k e) (all k e lt))
    sessions stand in
    changed_all (IsUpdateAt rs) (all_receipts sessions) (all_flat Q sessions each)

-- a receipt of a change is of a record
changed_newer : (P : ℕ → Type 0) (xs : List Receipt) → All P (written xs) → All P (changed xs)
changed_newer P [] all = All-nil P
changed_newer P (Changed it ∷ xs) all =
    All-cons P it.lsn (changed xs) (All-head P it.lsn (written xs) all)
    (changed_newer P xs (All-tail P it.lsn (written xs) all))
changed_newer P (Stepped it ∷ xs) all = changed_newer P xs (All-tail P it.lsn (written xs) all)
changed_newer P (Read it ∷ xs) all = changed_newer P xs all

-- no receipt of a change has the LSN of another record
changed_none : (rs : List Record) (lsns : List ℕ) (i : ℕ) (d : Record) → All (IsUpdateAt rs) lsns
    → is_update (slice_index_or rs i d) ≡ false → times (lsn_of i) lsns ≡ 0
changed_none rs lsns i d all none =
    elim (cases_lt 0 (times (lsn_of i) lsns)) [
      | inl some ↦
          let here = times_all (IsUpdateAt rs) (lsn_of i) lsns all some in
          let at = here.1 in
          let same : here.0 ≡ i = omega arith in
          let is : is_update (slice_index_or rs i d) ≡ true =
          subst (λ (n : ℕ). is_update (slice_index_or rs n d) ≡ true) same (here.3 d) in
          let clash : true ≡ false = sym is ∙ none in
          cc
      | inr none ↦ omega arith
    ]

-- ---- their counts

length-changed : (xs : List Receipt) → length (changed xs) ≡ changes_in xs
length-changed xs = length-map (filter is_change xs) position ∙ length-filter is_change xs

changed_sum : (sessions : List (List Receipt))
    → changes_in (all_receipts sessions) ≡ sum_by changes_in sessions
changed_sum [] = refl
changed_sum (xs ∷ sessions) =
    let both = sum_by-append (λ x. cond (is_change x) 1 0) xs (all_receipts sessions) in
    let more = sum_by-cons changes_in xs sessions in
    let rest = changed_sum sessions in
    omega arith

updates_split : (b : ℕ) (rs : List Record)
    → updates_in rs ≡ updates_in (take b rs) + updates_in (drop b rs)
updates_split b rs =
    ap updates_in (sym (take-append-drop b rs))
    ∙ sum_by-append (λ r. cond (is_update r) 1 0) (take b rs) (drop b rs)

-- how often the LSN of a record behind the first ones is among those of changes
times_changed : (rs : List Record) (forced_end b : ℕ) (sessions : List (List Receipt)) (i : ℕ) (d : Record)
    → txn_records_in (take b rs) + sum_by written_in sessions ≡ txn_records_in rs
    → All (AllStand rs forced_end) sessions
    → All (λ lsn. lsn_of b ≤ lsn) (written (all_receipts sessions))
    → AreApart (written (all_receipts sessions)) → b ≤ i → i < length rs
    → (is : Bool) → is_update (slice_index_or rs i d) ≡ is
    → times (lsn_of i) (changed (all_receipts sessions)) ≡ cond is 1 0
times_changed rs forced_end b sessions i d add_up stand newer apart from within true is =
    one_change_each rs forced_end sessions i d stand is
    (one_receipt_each rs forced_end b sessions i d add_up stand newer apart from within
    (update_of_txn (slice_index_or rs i d) is))
times_changed rs forced_end b sessions i d add_up stand newer apart from within false is =
    changed_none rs (changed (all_receipts sessions)) i d (updates_told rs forced_end sessions stand) is

-- as many as Updates
pub changes_add_up : (rs : List Record) (forced_end b : ℕ) (sessions : List (List Receipt))
    → txn_records_in (take b rs) + sum_by written_in sessions ≡ txn_records_in rs
    → All (AllStand rs forced_end) sessions
    → All (λ lsn. lsn_of b ≤ lsn) (written (all_receipts sessions))
    → AreApart (written (all_receipts sessions))
    → updates_in (take b rs) + sum_by changes_in sessions ≡ updates_in rs
changes_add_up rs forced_end b sessions add_up stand newer apart =
    let xs = all_receipts sessions in
    let behind = drop b rs in
    let long = length-drop b rs in
    let told = updates_told rs forced_end sessions stand in
    let there : All (λ lsn. (k : ℕ) × (lsn ≡ lsn_of k) × (b ≤ k) × (k < b + length behind)) (changed xs) =
    λ k e lt.
    let at = told k e lt in
    let old = changed_newer (λ lsn. lsn_of b ≤ lsn) xs newer k e lt in
    (at.0, at.1, omega (arith, old, at.1), (let h = at.2 in omega (arith, h, long, old, at.1))) in
    let all = found_all (changed xs) behind b there in
    let such = found_such is_update (changed xs) behind b (λ i d within.
    let place : slice_index_or behind i d ≡ slice_index_or rs (b + i) d = get_or-drop b rs i d in
    times_changed rs forced_end b sessions (b + i) d add_up stand newer apart (omega arith)
    (omega (arith, within, long)) (is_update (slice_index_or behind i d)) (ap is_update (sym place))) in
    let count : length (changed xs) ≡ sum_by changes_in sessions = length-changed xs ∙ changed_sum sessions in
    let split = updates_split b rs in
    omega (arith, all, such, count, split)
