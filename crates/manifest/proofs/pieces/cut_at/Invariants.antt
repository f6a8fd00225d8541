use Rattle.std.proofs.Common.{take}
use Rattle.manifest.specs.Pieces.{LacksByte}
use Rattle.manifest.proofs.pieces.cut_at.Given as goal

abbrev pub invariant-loop-i : goal.invariant-loop-i
invariant-loop-i l = LacksByte l.stop (take l.i l.bytes)
