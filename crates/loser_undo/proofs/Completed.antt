-- The checkpoints that a log completed, and the records that say so.
use Rattle.std.proofs.Common.{◌≡◌, ℕ, zero, suc, ◌<◌, Bool, true, false, ◌&&◌, ◌||◌, eqb, List, [], ◌∷◌, get_or, length}
use Rattle.std.proofs.Common.{refl, ap₂, arith, eqb-true, eq-eqb}
use Rattle.std.specs.List.{Contains, list_any}
use Rattle.std.proofs.lemmas.Bool.{and_parts}
use Rattle.log_records.specs.declared.record.Record.{Record}
use Rattle.log_records.specs.declared.record.Record.TheVariants.{EndChkpt}
use Rattle.log_rules.specs.declared.ckpt_point.CkptPoint.{CkptPoint}
use Rattle.log_rules.specs.Checkpoint.{completed_in}

abbrev pub is_named : ℕ → ℕ → CkptPoint → Bool
is_named begin end m = eqb m.begin begin && eqb m.end end

-- one that is named so has a record that ends it
pub ended_by : (begin end : ℕ) (rs : List Record) → list_any (is_named begin end) (completed_in rs) ≡ true
    → (redo : ℕ) × Contains rs (EndChkpt end begin redo)
ended_by begin end [] has = absurd (cc)
ended_by begin end (EndChkpt lsn b redo ∷ rs) has =
    by (eqb b begin && eqb lsn end) refl has (ended_by begin end rs)
  where
    by : (r : Bool) → (eqb b begin && eqb lsn end) ≡ r → (r || list_any (is_named begin end) (completed_in rs)) ≡ true
        → (list_any (is_named begin end) (completed_in rs) ≡ true
        → (redo : ℕ) × Contains rs (EndChkpt end begin redo))
        → (redo' : ℕ) × Contains (EndChkpt lsn b redo ∷ rs) (EndChkpt end begin redo')
    by true same has rest =
        let parts = and_parts (eqb b begin) (eqb lsn end) same in
        let is : EndChkpt lsn b redo ≡ EndChkpt end begin redo =
        ap₂ (λ l n. EndChkpt l n redo) (eqb-true lsn end parts.1) (eqb-true b begin parts.0) in
        (redo, (0, omega arith, is))
    by false other has rest =
        let found = rest has in
        (found.0, (suc found.1.0, omega (arith, found.1.1), found.1.2))
ended_by begin end (r ∷ rs) has =
    let found = ended_by begin end rs has in
    (found.0, (suc found.1.0, omega (arith, found.1.1), found.1.2))

-- and one that a record ends is among them
pub named_by : (begin end redo : ℕ) (rs : List Record) (k : ℕ) → k < length rs
    → get_or rs k (EndChkpt end begin redo) ≡ EndChkpt end begin redo
    → list_any (is_named begin end) (completed_in rs) ≡ true
named_by begin end redo [] k lt is = let no : ⊥ = omega (arith, lt) in absurd no
named_by begin end redo (EndChkpt lsn b other ∷ rs) zero lt is =
    let same_begin : b ≡ begin = cc in
    let same_end : lsn ≡ end = cc in
    ap₂ (λ x y. (x && y) || list_any (is_named begin end) (completed_in rs)) (eq-eqb b begin same_begin)
    (eq-eqb lsn end same_end)
named_by begin end redo (EndChkpt lsn b other ∷ rs) (suc k) lt is =
    late (eqb b begin && eqb lsn end) (list_any (is_named begin end) (completed_in rs))
    (named_by begin end redo rs k (omega (arith, lt)) is)
  where
    late : (x y : Bool) → y ≡ true → (x || y) ≡ true
    late true y e = refl
    late false y e = e
named_by begin end redo (r ∷ rs) zero lt is = at r is
  where
    at : (r : Record) → r ≡ EndChkpt end begin redo → list_any (is_named begin end) (completed_in (r ∷ rs)) ≡ true
    at (EndChkpt lsn b other) is =
        let same_begin : b ≡ begin = cc in
        let same_end : lsn ≡ end = cc in
        ap₂ (λ x y. (x && y) || list_any (is_named begin end) (completed_in rs)) (eq-eqb b begin same_begin)
        (eq-eqb lsn end same_end)
    at r is = absurd (cc)
named_by begin end redo (r ∷ rs) (suc k) lt is = named_by begin end redo rs k (omega (arith, lt)) is
