use Rattle.std.proofs.Common.{◌≡◌, drop}
use Rattle.checked_files.specs.Expected.{sum_of}
use Rattle.checked_files.proofs.expected.sum_in.Given as goal

abbrev pub invariant-loop-it : goal.invariant-loop-it
invariant-loop-it l = sum_of l.name (drop l.it-index l.expected) ≡ sum_of l.name l.expected
