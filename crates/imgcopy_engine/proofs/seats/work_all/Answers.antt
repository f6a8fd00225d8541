use Rattle.std.proofs.Common.{rules}
use Rattle.imgcopy_engine.proofs.Seated.{have_worked}
use Rattle.imgcopy_engine.proofs.seats.work_all.Goals as goal

pub returns : goal.returns
returns g c =
    have_worked g.T.Task.worked (λ seat. seat.task) (λ seat. seat.client.session) (λ seat. seat.works.items)
    c.args.seats.now c.for_each_mut.new.s (search rules)
    (λ i d within. let at = c.for_each_mut.ensures i d within in search rules)
