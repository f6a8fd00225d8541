use Rattle.copy_vault.proofs.Chains.{FitUpTo}
use Rattle.copy_vault.proofs.chain.first_misfit.Given as goal

abbrev pub invariant-loop-i : goal.invariant-loop-i
invariant-loop-i l = record {
  up : FitUpTo l.counts l.copies l.i l.kind;
}
