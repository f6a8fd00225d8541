use Rattle.engine_restart.specs.Added.{AreSoundBelow}
use Rattle.engine_restart.specs.Chained.{members}
use Rattle.engine_restart.proofs.copy_check.first_unsound.Given as goal

-- the pages so far are sound
abbrev pub invariant-loop-number : goal.invariant-loop-number
invariant-loop-number l = AreSoundBelow l.fn.log (members l.fn.older) l.fn.copy l.number
