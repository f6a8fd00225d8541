-- The sessions of a run, one after another.
use Rattle.std.proofs.Common.{ℕ, ◌≡◌, ◌≢◌, ◌+◌, ◌==◌, ◌<◌, ◌≤◌, ◌++◌, ◌⊎◌, Bool, true, false, List, [], ◌∷◌}
use Rattle.std.proofs.Common.{length, take, drop, replicate, slice_index_or, arith, refl, sym}
use Rattle.std.proofs.Common.{◌∙◌, ap, subst, cond, if◌then◌else◌, eqb, inl, inr}
use Rattle.std.specs.List.{All}
use Rattle.std.proofs.lemmas.Bool.{cases_lt}
use Rattle.std.proofs.lemmas.Bool.Decides.{eqb_tells}
use Rattle.std.proofs.lemmas.List.{append-nil, get_or-replicate, get_or_default, get_or_past}
use Rattle.std.proofs.lemmas.List.{length-replicate, take-append-drop, take_more}
use Rattle.std.proofs.lemmas.List.Concat.{flat_map-append}
use Rattle.std.proofs.lemmas.List.Elements.{All-head, All-nil, All-tail}
use Rattle.std.proofs.lemmas.List.Sums.{sum_by-cons}
use Rattle.log_records.specs.declared.record.Record.{Record}
use Rattle.log_records.specs.Log.{lsn_of}
use Rattle.settlement.specs.Marks.{AreMarked}
use Rattle.settlement.specs.Receipt.{Stands, is_read, position, times, written}
use Rattle.settlement.specs.Session.{IsUnsettled}
use Rattle.settlement.specs.Sessions.{AreApart, AreWrongAt, all_receipts}
use Rattle.settlement.specs.declared.receipt.Receipt.{Receipt}
use Rattle.settlement.proofs.Marking.{times-append, written-append, written_more}

pub times-cons : (x y : ℕ) (ys : List ℕ) → times x (y ∷ ys) ≡ cond (y == x) 1 0 + times x ys
times-cons x y ys = sum_by-cons (λ z. cond (z == x) 1 0) y ys

-- it is the first one, or stands among the rest
first_or_rest : (x y : ℕ) (ys : List ℕ) → 0 < times x (y ∷ ys)
    → ((eqb y x ≡ true) × (y ≡ x)) ⊎ ((eqb y x ≡ false) × (y ≢ x))
    → (y ≡ x) ⊎ (0 < times x ys)
first_or_rest x y ys some (inl (is, same)) = inl same
first_or_rest x y ys some (inr (is, other)) =
    let rest : times x (y ∷ ys) ≡ 0 + times x ys =
    times-cons x y ys ∙ ap (λ (b : Bool). cond b 1 0 + times x ys) is in
    inr (omega arith)

-- what holds of all holds of each one that is there
pub times_all : (P : ℕ → Type 0) (x : ℕ) (xs : List ℕ) → All P xs → 0 < times x xs → P x
times_all P x [] all some = absurd (omega arith)
times_all P x (y ∷ ys) all some =
    elim (first_or_rest x y ys some (eqb_tells y x)) [
      | inl same ↦ subst P same (All-head P y ys all)
      | inr more ↦ times_all P x ys (All-tail P y ys all) more
    ]

pub at_most_one : (b : Bool) → (if b then 1 else 0) ≤ 1
at_most_one true = omega arith
at_most_one false = omega arith

-- marked records have LSNs that differ
pub marked_apart : (marks : List Bool) (lsns : List ℕ) → AreMarked marks lsns → AreApart lsns
marked_apart marks lsns m x =
    elim (cases_lt 0 (times x lsns)) [
      | inl some ↦
          let here = times_all (λ lsn. (i : ℕ) × (lsn ≡ lsn_of i)) x lsns m.of_records some in
          let count = m.counted here.0 in
          let few = at_most_one (slice_index_or marks here.0 false) in
          omega (arith, ap (λ (n : ℕ). times n lsns) here.1)
      | inr none ↦ omega arith
    ]

pub none_marked : (n i : ℕ) → slice_index_or (replicate n false) i false ≡ false
none_marked n i =
    elim (cases_lt i n) [
      | inl within ↦ get_or-replicate n i false false within
      | inr past ↦
          let long = length-replicate n false in
          get_or_past (replicate n false) i false (omega arith)
    ]

pub fresh_marks : (n : ℕ) → AreMarked (replicate n false) []
fresh_marks n = record {
  counted = λ i. sym (ap (λ (b : Bool). if b then 1 else 0) (none_marked n i));
  of_records = All-nil _;
}

-- the LSNs of the records of one session more
pub all_more : (sessions : List (List Receipt)) (i : ℕ) (d : List Receipt) → i < length sessions
    → written (all_receipts (take (i + 1) sessions))
    ≡ written (all_receipts (take i sessions)) ++ written (slice_index_or sessions i d)
all_more sessions i d within =
    let xs = slice_index_or sessions i d in
    ap (λ ss. written (all_receipts ss)) (take_more sessions i d within)
    ∙ ap written (flat_map-append (λ (receipts : List Receipt). receipts) (take i sessions) (xs ∷ []))
    ∙ ap (λ rest. written (all_receipts (take i sessions) ++ rest)) (append-nil xs)
    ∙ written-append (all_receipts (take i sessions)) xs

-- an LSN is no more often among those of the first receipts than among those of all
pub times_first : (x n : ℕ) (xs : List Receipt) → times x (written (take n xs)) ≤ times x (written xs)
times_first x n xs =
    let both : times x (written xs) ≡ times x (written (take n xs)) + times x (written (drop n xs)) =
    ap (λ ys. times x (written ys)) (sym (take-append-drop n xs))
    ∙ ap (times x) (written-append (take n xs) (drop n xs))
    ∙ times-append x (written (take n xs)) (written (drop n xs)) in
    omega arith

pub times_sessions : (x n : ℕ) (sessions : List (List Receipt))
    → times x (written (all_receipts (take n sessions))) ≤ times x (written (all_receipts sessions))
times_sessions x n sessions =
    let first = all_receipts (take n sessions) in
    let rest = all_receipts (drop n sessions) in
    let both : times x (written (all_receipts sessions)) ≡ times x (written first) + times x (written rest) =
    ap (λ ss. times x (written (all_receipts ss))) (sym (take-append-drop n sessions))
    ∙ ap (λ ys. times x (written ys))
    (flat_map-append (λ (receipts : List Receipt). receipts) (take n sessions) (drop n sessions))
    ∙ ap (times x) (written-append first rest)
    ∙ times-append x (written first) (written rest) in
    omega arith

pub times_one : (x : ℕ) → times x (x ∷ []) ≡ 1
times_one x =
    elim (eqb_tells x x) [
      | inl (is, same) ↦ times-cons x x [] ∙ ap (λ (b : Bool). cond b 1 0 + 0) is
      | inr (is, other) ↦ absurd (other refl)
    ]

-- a record that is marked already, and a receipt of it
twice : (sessions : List (List Receipt)) (i k at : ℕ) (d : Receipt) → i < length sessions
    → k < length (slice_index_or sessions i [])
    → position (slice_index_or (slice_index_or sessions i []) k d) ≡ at
    → is_read (slice_index_or (slice_index_or sessions i []) k d) ≡ false
    → 0 < times at (written (all_receipts (take i sessions)) ++ written (take k (slice_index_or sessions i [])))
    → 1 < times at (written (all_receipts sessions))
twice sessions i k at d within inside place is some =
    let xs = slice_index_or sessions i [] in
    let x = slice_index_or xs k d in
    let before = written (all_receipts (take i sessions)) in
    let split = times-append at before (written (take k xs)) in
    let one : times at (position x ∷ []) ≡ 1 =
    subst (λ (n : ℕ). times at (n ∷ []) ≡ 1) (sym place) (times_one at) in
    let more : times at (written (take (k + 1) xs)) ≡ times at (written (take k xs)) + 1 =
    ap (times at) (written_more xs k d inside is)
    ∙ times-append at (written (take k xs)) (position x ∷ [])
    ∙ ap (λ (n : ℕ). times at (written (take k xs)) + n) one in
    let part = times_first at (k + 1) xs in
    let next : times at (written (all_receipts (take (i + 1) sessions))) ≡ times at before + times at (written xs) =
    ap (times at) (all_more sessions i [] within) ∙ times-append at before (written xs) in
    let whole = times_sessions at (i + 1) sessions in
    omega arith

-- what is wrong of a session is wrong of the run
pub wrong_session : (rs : List Record) (forced_end : ℕ) (marks : List Bool)
    (sessions : List (List Receipt)) (i k at : ℕ) → i < length sessions
    → AreMarked marks (written (all_receipts (take i sessions)))
    → k < length (slice_index_or sessions i [])
    → ((d : Receipt) → IsUnsettled rs forced_end marks (take k (slice_index_or sessions i []))
    (slice_index_or (slice_index_or sessions i []) k d) at)
    → (d : Receipt) → AreWrongAt rs forced_end sessions at
wrong_session rs forced_end marks sessions i k at within m inside wrong d =
    let xs = slice_index_or sessions i [] in
    elim (wrong d).why [
      | inl bad ↦ inl (record {
        session = i;
        index = k;
        session_within = within;
        index_within = inside;
        place = λ e. (wrong e).place;
        bad = λ e.
            subst (λ (x : Receipt). ¬ Stands rs forced_end (take k xs) x)
            (get_or_default xs k d e inside) bad;
      })
      | inr (is, taken) ↦
          inr (twice sessions i k at d within inside (wrong d).place is
          (taken (written (all_receipts (take i sessions))) m))
    ]

-- the same of the session at hand
pub wrong_in : (rs : List Record) (forced_end : ℕ) (marks : List Bool)
    (sessions : List (List Receipt)) (i at : ℕ) (xs : List Receipt) → i < length sessions
    → xs ≡ slice_index_or sessions i xs
    → AreMarked marks (written (all_receipts (take i sessions)))
    → (k : ℕ) × (k < length xs) × ((d : Receipt)
    → IsUnsettled rs forced_end marks (take k xs) (slice_index_or xs k d) at)
    → AreWrongAt rs forced_end sessions at
wrong_in rs forced_end marks sessions i at [] within is m (k, inside, wrong) = absurd (omega arith)
wrong_in rs forced_end marks sessions i at (x ∷ xs) within is m (k, inside, wrong) =
    let same : x ∷ xs ≡ slice_index_or sessions i [] =
    is ∙ get_or_default sessions i (x ∷ xs) [] within in
    wrong_session rs forced_end marks sessions i k at within m
    (subst (λ (ys : List Receipt). k < length ys) same inside)
    (subst (λ (ys : List Receipt). (d : Receipt)
    → IsUnsettled rs forced_end marks (take k ys) (slice_index_or ys k d) at) same wrong)
    x
