use Rattle.std.proofs.Common.{◌∙◌, get_or, sym}
use Rattle.log_records.proofs.Public.{clean_is_image, dirty_covers}
use Rattle.buffer_pool.specs.Pool.{unwritten, state_at}
use Rattle.buffer_pool.proofs.Pools.{reached}
use Rattle.buffer_pool.proofs.laws.stored_pages_cover_their_rec_lsns.Goals as goal

pub returns-clause-dirty : goal.returns-clause-dirty
returns-clause-dirty g c = λ log pool number rec d of there stored e.
    let state = state_at pool number in
    let is = of.states number unwritten there in
    dirty_covers log.records number (get_or (g.S.PageStore.stored pool.store) number d) state.written rec
    (of.stored.pages number d stored).past (reached g.S.PageStore.stored log pool number d of there stored)
    (sym is.dirty ∙ e)

pub returns-clause-clean : goal.returns-clause-clean
returns-clause-clean g c = λ log pool number d of there stored e.
    let state = state_at pool number in
    let is = of.states number unwritten there in
    clean_is_image log number (get_or (g.S.PageStore.stored pool.store) number d) state.written of.valid
    (of.stored.pages number d stored).past (reached g.S.PageStore.stored log pool number d of there stored)
    (sym is.dirty ∙ e)
