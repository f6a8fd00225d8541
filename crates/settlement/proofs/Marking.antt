-- Marks, one record after another.
use Rattle.std.proofs.Common.{ℕ, ◌≡◌, ◌≢◌, ◌+◌, ◌==◌, ◌<◌, ◌++◌, Bool, true, false, not, List, [], ◌∷◌}
use Rattle.std.proofs.Common.{length, take, map, filter, slice_index_or, slice_set, arith, refl, sym}
use Rattle.std.proofs.Common.{◌∙◌, ap, subst, cond, if◌then◌else◌, add-one, inl, inr}
use Rattle.std.proofs.Common.{◌⊎◌, eqb, add-zero, zero-add}
use Rattle.std.proofs.lemmas.Bool.Decides.{eqb_tells}
use Rattle.std.proofs.lemmas.List.{append-nil, append_assoc, get_or-set_same, get_or-set_other, map-append}
use Rattle.std.proofs.lemmas.List.Elements.{All-more, All-push, filter-append}
use Rattle.std.proofs.lemmas.List.Sums.{sum_by-append}
use Rattle.std.proofs.Math.Seq.{take-suc}
use Rattle.log_records.specs.declared.record.Record.{Record}
use Rattle.log_records.specs.Log.{lsn_of}
use Rattle.settlement.specs.Marks.{AreLogged, AreMarked, IsTaken}
use Rattle.settlement.specs.Receipt.{IsLogged, is_read, position, times, written}
use Rattle.settlement.specs.declared.receipt.Receipt.{Receipt}

pub times-append : (lsn : ℕ) (xs ys : List ℕ) → times lsn (xs ++ ys) ≡ times lsn xs + times lsn ys
times-append lsn xs ys = sum_by-append (λ x. cond (x == lsn) 1 0) xs ys

-- how often, behind one more
pub times_more : (x lsn : ℕ) (lsns : List ℕ)
    → times x (lsns ++ lsn ∷ []) ≡ times x lsns + (if lsn == x then 1 else 0)
times_more x lsn lsns =
    times-append x lsns (lsn ∷ [])
    ∙ ap (λ (n : ℕ). times x lsns + n) (zero-add (if lsn == x then 1 else 0))

counted_more : (marks : List Bool) (lsns : List ℕ) (i j : ℕ)
    → times (lsn_of j) lsns ≡ (if slice_index_or marks j false then 1 else 0)
    → i < length marks → slice_index_or marks i false ≡ false
    → ((eqb (lsn_of i) (lsn_of j) ≡ true) × (lsn_of i ≡ lsn_of j))
    ⊎ ((eqb (lsn_of i) (lsn_of j) ≡ false) × (lsn_of i ≢ lsn_of j))
    → times (lsn_of j) (lsns ++ lsn_of i ∷ [])
    ≡ (if slice_index_or (slice_set marks i true) j false then 1 else 0)
counted_more marks lsns i j before inside free (inl (is, same)) =
    let here : i ≡ j = omega arith in
    let was : slice_index_or marks j false ≡ false =
    subst (λ (n : ℕ). slice_index_or marks n false ≡ false) here free in
    let now : slice_index_or (slice_set marks i true) j false ≡ true =
    subst (λ (n : ℕ). slice_index_or (slice_set marks i true) n false ≡ true) here
    (get_or-set_same marks i true false inside) in
    times_more (lsn_of j) (lsn_of i) lsns
    ∙ rw (before, was, is, now) refl
counted_more marks lsns i j before inside free (inr (is, other)) =
    let apart : j ≢ i = λ e. other (ap lsn_of (sym e)) in
    times_more (lsn_of j) (lsn_of i) lsns
    ∙ rw (before, is, get_or-set_other marks i j true false apart) (add-zero _)

-- one more record is marked, which was not
pub marked_more : (marks : List Bool) (lsns : List ℕ) (i lsn : ℕ) → AreMarked marks lsns
    → lsn ≡ lsn_of i → i < length marks → slice_index_or marks i false ≡ false
    → AreMarked (slice_set marks i true) (lsns ++ lsn ∷ [])
marked_more marks lsns i lsn m at inside free = record {
  counted = λ j.
      subst (λ (x : ℕ). times (lsn_of j) (lsns ++ x ∷ [])
      ≡ (if slice_index_or (slice_set marks i true) j false then 1 else 0)) (sym at)
      (counted_more marks lsns i j (m.counted j) inside free
      (eqb_tells (lsn_of i) (lsn_of j)));
  of_records = All-push (λ (x : ℕ). (k : ℕ) × (x ≡ lsn_of k)) lsns lsn m.of_records (i, at);
}

-- a marked record has its LSN among them
pub marked_times : (marks : List Bool) (lsns : List ℕ) (i : ℕ) → AreMarked marks lsns
    → slice_index_or marks i false ≡ true → 0 < times (lsn_of i) lsns
marked_times marks lsns i m is =
    let one : times (lsn_of i) lsns ≡ 1 =
    m.counted i ∙ ap (λ (b : Bool). if b then 1 else 0) is in
    omega arith

pub written-append : (xs ys : List Receipt) → written (xs ++ ys) ≡ written xs ++ written ys
written-append xs ys =
    ap (map position) (filter-append (λ x. not (is_read x)) xs ys)
    ∙ map-append position (filter (λ x. not (is_read x)) xs) (filter (λ x. not (is_read x)) ys)

written_one : (x : Receipt) → is_read x ≡ false → written (x ∷ []) ≡ position x ∷ []
written_one x is = rw is refl

written_none : (x : Receipt) → is_read x ≡ true → written (x ∷ []) ≡ []
written_none x is = rw is refl

-- the LSNs of the records up to the next receipt
pub written_more : (xs : List Receipt) (i : ℕ) (d : Receipt) → i < length xs
    → is_read (slice_index_or xs i d) ≡ false
    → written (take (i + 1) xs) ≡ written (take i xs) ++ position (slice_index_or xs i d) ∷ []
written_more xs i d inside is =
    let x = slice_index_or xs i d in
    rw (add-one, take-suc xs i d inside)
    (written-append (take i xs) (x ∷ []) ∙ ap (λ ys. written (take i xs) ++ ys) (written_one x is))

pub written_same : (xs : List Receipt) (i : ℕ) (d : Receipt) → i < length xs
    → is_read (slice_index_or xs i d) ≡ true → written (take (i + 1) xs) ≡ written (take i xs)
written_same xs i d inside is =
    let x = slice_index_or xs i d in
    rw (add-one, take-suc xs i d inside)
    (written-append (take i xs) (x ∷ []) ∙ ap (λ ys. written (take i xs) ++ ys) (written_none x is)
    ∙ append-nil (written (take i xs)))

-- ---- one step of a loop over receipts

pub step_logged : (rs : List Record) (forced_end : ℕ) (xs : List Receipt) (i : ℕ) (x : Receipt)
    → AreLogged rs forced_end (take i xs) → i < length xs → x ≡ slice_index_or xs i x
    → (is_read x ≡ false → IsLogged rs forced_end x) → AreLogged rs forced_end (take (i + 1) xs)
step_logged rs forced_end xs i x so_far inside is here =
    let P : Receipt → Type 0 = λ y. is_read y ≡ false → IsLogged rs forced_end y in
    All-more P xs i x inside so_far (subst P is here)

-- what was marked at the start, and then the records of these receipts
abbrev pub MarksAll : List Bool → List Bool → List Receipt → Type 0
MarksAll first marks xs =
    (lsns : List ℕ) → AreMarked first lsns → AreMarked marks (lsns ++ written xs)

pub step_marked : (first marks : List Bool) (xs : List Receipt) (i k : ℕ) (x : Receipt)
    → MarksAll first marks (take i xs) → i < length xs → x ≡ slice_index_or xs i x → is_read x ≡ false
    → position x ≡ lsn_of k → k < length marks → slice_index_or marks k false ≡ false
    → MarksAll first (slice_set marks k true) (take (i + 1) xs)
step_marked first marks xs i k x so_far inside is written-is at within free lsns m =
    let now = marked_more marks (lsns ++ written (take i xs)) k (position x) (so_far lsns m) at within
    free in
    let more : written (take (i + 1) xs) ≡ written (take i xs) ++ position x ∷ [] =
    written_more xs i x inside (subst (λ (y : Receipt). is_read y ≡ false) is written-is)
    ∙ ap (λ (y : Receipt). written (take i xs) ++ position y ∷ []) (sym is) in
    rw (more, ← append_assoc) now

pub step_unmarked : (first marks : List Bool) (xs : List Receipt) (i : ℕ) (x : Receipt)
    → MarksAll first marks (take i xs) → i < length xs → x ≡ slice_index_or xs i x → is_read x ≡ true
    → MarksAll first marks (take (i + 1) xs)
step_unmarked first marks xs i x so_far inside is read lsns m =
    rw (written_same xs i x inside (subst (λ (y : Receipt). is_read y ≡ true) is read))
    (so_far lsns m)

pub step_taken : (first marks : List Bool) (xs : List Receipt) (i k at : ℕ)
    → MarksAll first marks (take i xs) → at ≡ lsn_of k → slice_index_or marks k false ≡ true
    → IsTaken first (take i xs) at
step_taken first marks xs i k at so_far here is lsns m =
    let some = marked_times marks (lsns ++ written (take i xs)) k (so_far lsns m) is in
    subst (λ (n : ℕ). 0 < times n (lsns ++ written (take i xs))) (sym here) some
