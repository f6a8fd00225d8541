use Rattle.std.proofs.Common.{◌++◌, ◌∷◌, [], refl, subst, sym}
use Rattle.std.specs.List.{filter_map}
use Rattle.settlement.specs.Marks.{AreMarked}
use Rattle.engine_run.specs.Settled.{begin_of}
use Rattle.engine_run.specs.declared.work.Work.{Work}
use Rattle.engine_run.proofs.check_works.check_work.Goals as goal

pub returns-then-mark_checkpoint-clause-marked : goal.returns-then-mark_checkpoint-clause-marked
returns-then-mark_checkpoint-clause-marked c = λ lsns m.
    subst (λ (w : Work). AreMarked c.mark_checkpoint.new.marks
    (lsns ++ filter_map begin_of (w ∷ []))) (sym c.in-Pointed.is)
    (c.if-mark_checkpoint.ensures.marked refl lsns m)
