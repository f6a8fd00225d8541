use Rattle.std.proofs.Common.{◌≡◌, take}
use Rattle.copy_vault.specs.Chain.{lent}
use Rattle.copy_vault.proofs.chain.Chain.link.Given as goal

abbrev pub invariant-loop-i : goal.invariant-loop-i
invariant-loop-i l = record {
  so_far : lent l.members.items ≡ take l.i l.copies;
}
