use Rattle.std.proofs.Common.{◌∙◌, ap, sym, arith}
use Rattle.buffer_pool.specs.Pool.{PageState}
use Rattle.buffer_pool.proofs.Columns.{count_is, state_is}
use Rattle.buffer_pool.proofs.page_states.PageStates.rec_lsn.Goals as goal

pub of-requires : goal.of-requires
of-requires c =
    let s = c.self.inside in
    let count =
    count_is s.last_writes.items s.rec_lsns s.images.items s.first_changes.items c.args.self.now c.self.view_is in
    omega (arith, c.self.invariant.0.rec_lsn_count)

pub returns : goal.returns
returns c =
    let s = c.self.inside in
    c.of.ensures ∙ ap (λ (x : PageState). x.rec_lsn) (sym
    (state_is s.last_writes.items s.rec_lsns s.images.items s.first_changes.items c.args.self.now c.args.number
    c.self.view_is c.requires))
