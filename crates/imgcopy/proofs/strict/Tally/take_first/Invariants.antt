use Rattle.std.proofs.Common.{◌≡◌, fold, take}
use Rattle.imgcopy.specs.Strict.{counted, counts_of}
use Rattle.imgcopy.proofs.strict.Tally.take_first.Given as goal

abbrev pub invariant-loop-byte : goal.invariant-loop-byte
invariant-loop-byte l = counts_of l.self ≡ fold counted (counts_of l.fn.self) (take l.byte-index l.taken)
