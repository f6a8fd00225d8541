use Rattle.std.proofs.Common.{arith}
use Rattle.buffer_pool.proofs.Columns.{count_is}
use Rattle.buffer_pool.proofs.page_states.PageStates.count.Goals as goal

pub returns : goal.returns
returns c =
    let s = c.self.inside in
    let count =
    count_is s.last_writes.items s.rec_lsns s.images.items s.first_changes.items c.args.self.now c.self.view_is in
    omega (arith, s.last_writes.ok.0)
