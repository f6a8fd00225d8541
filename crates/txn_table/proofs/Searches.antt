-- A search by halves among the Comps of a log, whose LSNs rise.
use Rattle.std.proofs.Common.{◌≡◌, ℕ, ◌+◌, ◌<◌, ◌≤◌, cond, eqb, List, length, get_or, inl, inr, sym}
use Rattle.std.proofs.Common.{ap, subst, ◌∙◌, arith, eq-eqb}
use Rattle.std.specs.Prelude.{Some, None, Contains}
use Rattle.std.proofs.lemmas.Bool.{cases_eq, cases_lt}
use Rattle.std.proofs.lemmas.List.{get_or_default}
use Rattle.txn_table.specs.declared.returns.Return.{Return}
use Rattle.txn_table.specs.Returns.{AreRising}
use Rattle.txn_table.proofs.Going.{return_at}

pub below_middle : (made : List Return) (middle at : ℕ) (x : Return) → x ≡ get_or made middle x → middle < length made
    → x.lsn < at → AreRising made → (k : ℕ) (d : Return) → k < middle + 1 → (get_or made k d).lsn < at
below_middle made middle at x is within low rising k d below =
    let same = ap (λ (y : Return). y.lsn) (is ∙ get_or_default made middle x d within) in
    elim (cases_eq k middle) [
      | inl one ↦ subst (λ (n : ℕ). (get_or made n d).lsn < at) (sym one) (omega (arith, same, low))
      | inr other ↦ let less = rising k middle d (omega arith) within in omega (arith, less, same, low)
    ]

pub above_middle : (made : List Return) (middle at : ℕ) (x : Return) → x ≡ get_or made middle x → middle < length made
    → at < x.lsn → AreRising made → (k : ℕ) (d : Return) → middle ≤ k → k < length made → at < (get_or made k d).lsn
above_middle made middle at x is within high rising k d above lt =
    let same = ap (λ (y : Return). y.lsn) (is ∙ get_or_default made middle x d within) in
    elim (cases_eq k middle) [
      | inl one ↦ subst (λ (n : ℕ). at < (get_or made n d).lsn) (sym one) (omega (arith, same, high))
      | inr other ↦ let more = rising middle k d (omega arith) lt in omega (arith, more, same, high)
    ]

-- the one that was met
pub met_there : (made : List Return) (middle at t : ℕ) (x : Return) → x ≡ get_or made middle x → middle < length made
    → x.lsn ≡ at → x.txn ≡ t → Contains made (return_at at t x.left)
met_there made middle at t x is within lsn txn =
    let one : x ≡ return_at at t x.left = λ i. record { lsn = lsn i; txn = txn i; left = x.left } in
    (middle, within, get_or_default made middle (return_at at t x.left) x within ∙ sym is ∙ one)

-- no other one has its LSN
pub met_alone : (made : List Return) (middle at t left : ℕ) (x : Return) → x ≡ get_or made middle x
    → middle < length made → x.lsn ≡ at → AreRising made → Contains made (return_at at t left)
    → cond (eqb x.txn t) (Some x.left) None ≡ Some left
met_alone made middle at t left x is within lsn rising there =
    let y = return_at at t left in
    let k = there.0 in
    let same_lsn = ap (λ (z : Return). z.lsn) there.2 in
    let here = ap (λ (z : Return). z.lsn) (is ∙ get_or_default made middle x y within) in
    let place : k ≡ middle = by k middle y (rising k middle y) (rising middle k y) there.1 within same_lsn (sym here ∙ lsn) in
    let one : x ≡ y = is ∙ get_or_default made middle x y within ∙ ap (λ n. get_or made n y) (sym place) ∙ there.2 in
    ap (λ b. cond b (Some x.left) None) (eq-eqb x.txn t (ap (λ (z : Return). z.txn) one))
    ∙ ap (λ (z : Return). Some z.left) one
  where
    by : (k middle : ℕ) (d : Return) → (k < middle → middle < length made → (get_or made k d).lsn < (get_or made middle d).lsn)
        → (middle < k → k < length made → (get_or made middle d).lsn < (get_or made k d).lsn)
        → k < length made → middle < length made → (get_or made k d).lsn ≡ at → (get_or made middle d).lsn ≡ at
        → k ≡ middle
    by k middle d up down lt within one two = elim (cases_eq k middle) [
      | inl same ↦ same
      | inr other ↦ elim (cases_lt k middle) [
        | inl less ↦ let rises = up less within in absurd (omega (arith, rises, one, two))
        | inr more ↦ let rises = down (omega arith) lt in absurd (omega (arith, rises, one, two))
      ]
    ]
