use Rattle.std.proofs.Common.{subst, sym}
use Rattle.engine_run.specs.Beginning.{IsBeginning}
use Rattle.engine_run.specs.declared.beginning.Beginning.{Beginning}
use Rattle.imgcopy_engine.proofs.Seated.{compared_on}
use Rattle.imgcopy_engine.proofs.run.on_with.Goals as goal

pub returns-in-Ok-clause-compared : goal.returns-in-Ok-clause-compared
returns-in-Ok-clause-compared g c =
    compared_on g.T.Task.worked c.args.tasks.now.items c.run_tasks.new.tasks.items c.run_tasks.result
    (λ began is. subst (λ (it : Beginning). IsBeginning c.args.engine.state it) (sym is) c.in-Ok.ensures.began) c.run_tasks.ensures.compared
