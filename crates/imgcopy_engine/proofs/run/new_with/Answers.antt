use Rattle.std.proofs.Common.{◌∙◌}
use Rattle.imgcopy_engine.proofs.Seated.{compared_on}
use Rattle.imgcopy_engine.proofs.run.new_with.Goals as goal

pub returns-in-Ok-clause-compared : goal.returns-in-Ok-clause-compared
returns-in-Ok-clause-compared g c =
    compared_on g.T.Task.worked c.args.tasks.now.items c.run_tasks.new.tasks.items c.run_tasks.result
    (λ began is. is ∙ c.in-Ok.ensures.began) c.run_tasks.ensures.compared
