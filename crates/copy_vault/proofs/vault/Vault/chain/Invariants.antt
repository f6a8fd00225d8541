use Rattle.std.proofs.Common.{reverse}
use Rattle.copy_vault.specs.Chain.{lent}
use Rattle.copy_vault.specs.Vault.{IsOfId}
use Rattle.copy_vault.proofs.ChainsOf.{IsTail}
use Rattle.copy_vault.proofs.vault.Vault.chain.Given as goal

abbrev pub invariant-loop-parent : goal.invariant-loop-parent
invariant-loop-parent l = record {
  known : IsOfId l.self.copies l.copy.id l.copy;
  tail : IsTail l.self.copies l.fn.id l.copy (reverse (lent l.members.items));
}

abbrev pub decreases-loop-parent : goal.decreases-loop-parent
decreases-loop-parent l = l.copy.id
