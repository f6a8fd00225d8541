use Rattle.std.proofs.Common.{◌≡◌, drop}
use Rattle.file_inputs.specs.CopyChain.{parent_of}
use Rattle.file_inputs.proofs.copy_chain.stands_on.Given as goal

abbrev pub invariant-loop-header : goal.invariant-loop-header
invariant-loop-header l = parent_of (drop l.header-index l.headers) l.id ≡ parent_of l.headers l.id
