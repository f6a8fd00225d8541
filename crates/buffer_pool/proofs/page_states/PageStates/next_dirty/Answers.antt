use Rattle.buffer_pool.proofs.Columns.{first_is}
use Rattle.buffer_pool.proofs.page_states.PageStates.next_dirty.Goals as goal

pub returns-clause-first : goal.returns-clause-first
returns-clause-first c =
    let s = c.self.inside in
    first_is s.last_writes.items s.rec_lsns s.images.items s.first_changes.items c.args.self.now c.args.from
    c.first_from.result c.self.view_is c.self.invariant.0.rec_lsn_count c.first_from.ensures
