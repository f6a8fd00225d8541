use Rattle.buffer_pool.proofs.Grown.{columns_grown}
use Rattle.buffer_pool.proofs.page_states.PageStates.grow.Goals as goal

pub returns : goal.returns
returns c =
    let s = c.self.inside in
    rw (c.grow_column_with.ensures.grown, c.grow.ensures, c.grow_column.ensures.grown, c.grow_column-2.ensures.grown)
    (columns_grown s.last_writes.items s.rec_lsns s.images.items s.first_changes.items c.args.count
    c.self.invariant.0 c.args.self.now c.self.view_is)
