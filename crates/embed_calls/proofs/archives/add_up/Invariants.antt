use Rattle.std.proofs.Common.{◌≡◌, sum, ◌+◌, take}
use Rattle.embed_calls.proofs.archives.add_up.Given as goal

abbrev pub invariant-loop-length : goal.invariant-loop-length
invariant-loop-length l = l.left + sum (take l.length-index l.lengths) ≡ l.fn.bytes
