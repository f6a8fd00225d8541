-- A pending change as an open transaction keeps it.
use Rattle.std.specs.Prelude.{ℕ, true, false}
use Rattle.page_core.specs.declared.change.Change.{Change}
use Rattle.page_core.specs.declared.change.Change.TheVariants.{Add, Set}
use Rattle.page_core.specs.declared.change.ChangeKind.{ChangeKind}
use Rattle.page_core.specs.declared.change.ChangeKind.TheVariants as kind
use Rattle.slot_claims.specs.declared.claims.Hold.{Hold}
use Rattle.txn_table.specs.declared.pending.Kept.{Kept}
use Rattle.txn_table.specs.declared.pending.Kept.TheVariants as kept
use Rattle.log_rules.specs.declared.pending_change.PendingChange.{PendingChange}

-- a pending change, and what its transaction kept out of the slot before it
pub record Pending : Type 0 where
  pub change : PendingChange
  pub before : Hold

-- the change of this kind and these numbers
abbrev pub change_by : ChangeKind → ℕ → ℕ → Change
change_by kind.Set number after = Set number after
change_by kind.Add number after = Add number

-- the hold that one of these four names stands for
abbrev pub hold_by_kept : Kept → Hold
hold_by_kept kept.Nothing = record { against_sets = false; against_adds = false }
hold_by_kept kept.Sets = record { against_sets = true; against_adds = false }
hold_by_kept kept.Adds = record { against_sets = false; against_adds = true }
hold_by_kept kept.All = record { against_sets = true; against_adds = true }
