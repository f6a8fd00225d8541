use Rattle.std.proofs.Common.{arith}
use Rattle.file_inputs.proofs.CopyChains.{newest_of}
use Rattle.file_inputs.proofs.copy_chain.newest_chain.Goals as goal

pub returns : goal.returns
returns c =
    newest_of (λ chain. chain.items) c.args.headers.now c.loop-header.newest c.chain_of-2.result
    c.loop-header.invariant.there
    (λ k it low has. c.loop-header.invariant.most k it (omega (arith, low, c.loop-header-test.false)) has)
    c.chain_of-2.ensures
