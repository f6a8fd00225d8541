-- How many pending changes have an LSN up to a given one.
use Rattle.std.specs.Prelude.{ℕ, ◌<◌, ◌≤◌, List, length, slice_index_or}
use Rattle.std.specs.List.{AllPairs}
use Rattle.log_rules.specs.declared.pending_change.PendingChange.{PendingChange}

-- the LSNs rise
abbrev pub AreRising : List PendingChange → Type 0
AreRising changes = AllPairs (λ a b. a.lsn < b.lsn) changes

-- so many changes have an LSN up to this one, if the LSNs rise; and these are the first ones
pub record IsCountUpTo (changes : List PendingChange) (lsn count : ℕ) : Type 0 where
  pub within : count ≤ length changes
  pub below : AreRising changes → (k : ℕ) (d : PendingChange) → k < count
      → (slice_index_or changes k d).lsn ≤ lsn
  pub above : AreRising changes → (k : ℕ) (d : PendingChange) → count ≤ k → k < length changes
      → lsn < (slice_index_or changes k d).lsn
