-- A search by halves in changes whose LSNs rise.
use Rattle.std.proofs.Common.{◌≡◌, ℕ, ◌+◌, ◌<◌, ◌≤◌, List, length, get_or, inl, inr, sym, ap, subst, ◌∙◌, arith}
use Rattle.std.proofs.lemmas.Bool.{cases_eq}
use Rattle.std.proofs.lemmas.List.{get_or-map, length-map}
use Rattle.log_rules.specs.declared.pending_change.PendingChange.{PendingChange}
use Rattle.txn_table.specs.CountUpTo.{AreRising}
use Rattle.txn_table.specs.OpenEntry.{changes_of}
use Rattle.txn_table.specs.Pending.{Pending}

-- the change at a place, of the pending changes as they are kept
pub change_at : (ps : List Pending) (i : ℕ) (p : Pending) (d : PendingChange) → i < length ps
    → p ≡ get_or ps i p → get_or (changes_of ps) i d ≡ p.change
change_at ps i p d lt is =
    get_or-map (λ (q : Pending). q.change) ps i p d lt ∙ sym (ap (λ (q : Pending). q.change) is)

-- up to a change whose LSN is no greater all are no greater
pub below_middle : (changes : List PendingChange) (middle lsn at : ℕ)
    → ((d : PendingChange) → (get_or changes middle d).lsn ≡ at) → middle < length changes → at ≤ lsn
    → AreRising changes → (k : ℕ) (d : PendingChange) → k < middle + 1 → (get_or changes k d).lsn ≤ lsn
below_middle changes middle lsn at is lt low rising k d below = elim (cases_eq k middle) [
  | inl same ↦
      subst (λ (n : ℕ). (get_or changes n d).lsn ≤ lsn) (sym same) (omega (arith, is d, low))
  | inr other ↦ let less = rising k middle d (omega arith) lt in omega (arith, less, is d, low)
]

-- from one whose LSN is greater on all are greater
pub above_middle : (changes : List PendingChange) (middle lsn at : ℕ)
    → ((d : PendingChange) → (get_or changes middle d).lsn ≡ at) → lsn < at → AreRising changes
    → (k : ℕ) (d : PendingChange) → middle ≤ k → k < length changes → lsn < (get_or changes k d).lsn
above_middle changes middle lsn at is high rising k d above lt = elim (cases_eq k middle) [
  | inl same ↦
      subst (λ (n : ℕ). lsn < (get_or changes n d).lsn) (sym same) (omega (arith, is d, high))
  | inr other ↦ let more = rising middle k d (omega arith) lt in omega (arith, more, is d, high)
]

pub same_count : (ps : List Pending) → length (changes_of ps) ≡ length ps
same_count ps = length-map ps (λ (q : Pending). q.change)
