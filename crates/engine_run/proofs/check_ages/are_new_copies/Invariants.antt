use Rattle.std.proofs.Common.{take}
use Rattle.engine_run.specs.Settled.{AreNewCopies}
use Rattle.engine_run.proofs.check_ages.are_new_copies.Given as goal

-- the copies so far are not older
abbrev pub invariant-loop-work : goal.invariant-loop-work
invariant-loop-work l = AreNewCopies l.last (take l.work-index l.works)
