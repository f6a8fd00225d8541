use Rattle.std.proofs.Common.{sym, subst}
use Rattle.copy_audit.specs.Trace.{IsTraced}
use Rattle.copy_audit.proofs.trace.Trace.go_to.Goals as goal
use Rattle.copy_audit.proofs.trace.Trace.go_to.Goals.{then-count-self, else-count-self}

pub returns-clause-traced : goal.returns-clause-traced
returns-clause-traced c = λ rs all of was.
    c.redo_up_to.ensures.traced rs c.args.number all of (elim c.if-count-self.branch [
      | then-count-self w ↦ subst (IsTraced rs c.args.number) (sym w.self-is) (w.new.ensures.traced rs)
      | else-count-self w ↦ subst (IsTraced rs c.args.number) (sym w.self-is) was
    ])
