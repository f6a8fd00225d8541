use Rattle.std.proofs.Common.{ℕ, ◌≡◌, ◌<◌, ◌≤◌, length}
use Rattle.copy_vault.specs.Vault.{dropped, state_of}
use Rattle.engine_run.proofs.beginning.last_copy.Given as goal

-- of the ids so far, none behind the last one has a copy
abbrev pub invariant-loop-before : goal.invariant-loop-before
invariant-loop-before l =
    (l.last ≤ length l.vault.copies)
    × ((id : ℕ) → l.last < id → id ≤ l.before → state_of l.vault.copies id ≡ dropped)
