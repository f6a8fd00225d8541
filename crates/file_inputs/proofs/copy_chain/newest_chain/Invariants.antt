use Rattle.std.proofs.Common.{◌≡◌, ◌⊎◌, ◌<◌, ◌≤◌, ℕ, get_or}
use Rattle.file_inputs.specs.CopyChain.{HasChain}
use Rattle.file_view.specs.declared.copy_header.CopyHeader.{CopyHeader}
use Rattle.file_inputs.proofs.copy_chain.newest_chain.Given as goal

abbrev pub invariant-loop-header : goal.invariant-loop-header
invariant-loop-header l = record {
  there : (l.newest ≡ 0) ⊎ HasChain l.headers l.newest;
  most : (k : ℕ) (it : CopyHeader) → k < l.header-index → HasChain l.headers (get_or l.headers k it).id
      → (get_or l.headers k it).id ≤ l.newest;
}
