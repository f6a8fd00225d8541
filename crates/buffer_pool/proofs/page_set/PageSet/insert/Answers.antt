use Rattle.std.proofs.Common.{arith, length, ap}
use Rattle.buffer_pool.proofs.PageSets.{levels_inserted}
use Rattle.buffer_pool.proofs.page_set.PageSet.insert.Goals as goal

pub invariant_of-self : goal.invariant_of-self
invariant_of-self c =
    let s = c.self.inside in
    levels_inserted s.pages s.words s.groups c.insert.new.self c.insert-2.new.self c.insert-3.new.self c.args.number
    c.self.invariant (omega (arith, ap length c.self.view_is)) c.insert.ensures c.insert-2.ensures c.insert-3.ensures
