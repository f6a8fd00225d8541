use Rattle.engine_run.specs.Flushed.{AreFlushed}
use Rattle.engine_run.specs.Replies.{MadeOn}
use Rattle.engine_run.proofs.shared.Shared.flush_pass.Given as goal

-- each page so far is flushed
abbrev pub invariant-loop-number : goal.invariant-loop-number
invariant-loop-number g l = AreFlushed (MadeOn g.S.PageStore g.D.LogDevice) l.number
