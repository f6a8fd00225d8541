use Rattle.std.proofs.Common.{◌≡◌, ◌≤◌, [], length, drop}
use Rattle.copy_vault.specs.Chain.{lent, takings}
use Rattle.copy_vault.proofs.chain.Chain.newest.Given as goal

abbrev pub invariant-loop-later : goal.invariant-loop-later
invariant-loop-later l = record {
  within : l.later ≤ length (lent l.self-inside.members.items);
  none : takings (drop l.later (lent l.self-inside.members.items)) l.number ≡ [];
}

abbrev pub decreases-loop-later : goal.decreases-loop-later
decreases-loop-later l = l.later
