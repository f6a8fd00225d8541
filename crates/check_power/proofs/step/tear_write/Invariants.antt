use Rattle.std.proofs.Common.{length}
use Rattle.sqlite_disk.specs.Disk.{Torn}
use Rattle.check_power.proofs.step.tear_write.Given as goal

abbrev pub invariant-loop-index : goal.invariant-loop-index
invariant-loop-index l = Torn l.at (length l.bytes) l.fn.left.items l.left.items
