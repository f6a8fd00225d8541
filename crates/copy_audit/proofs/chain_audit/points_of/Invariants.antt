use Rattle.std.proofs.Common.{◌≡◌, take}
use Rattle.copy_vault.specs.ChainEach.{points_of}
use Rattle.copy_audit.proofs.chain_audit.points_of.Given as goal

abbrev pub invariant-loop-member : goal.invariant-loop-member
invariant-loop-member l = l.points.items ≡ take l.member (points_of l.chain)
