use Rattle.std.proofs.Common.{◌≡◌}
use Rattle.copy_vault.specs.Chain.{contents}
use Rattle.copy_vault.proofs.chain.Chain.contents.Given as goal

abbrev pub invariant-loop-number : goal.invariant-loop-number
invariant-loop-number l = record {
  so_far : l.pages.items ≡ contents l.self l.number;
}
