use Rattle.engine_run.specs.Replies.{MadeOn}
use Rattle.engine_run.specs.Work.{AreTaken}
use Rattle.engine_run.proofs.shared.Shared.take_in_order.Given as goal

-- each page so far is taken
abbrev pub invariant-loop-number : goal.invariant-loop-number
invariant-loop-number g l = AreTaken (MadeOn g.S.PageStore g.D.LogDevice) l.fn.copy l.number
