use Rattle.std.proofs.Common.{◌≡◌, ◌<◌, List, length, ap, subst, sym, arith}
use Rattle.std.proofs.lemmas.List.Elements.{All-contains}
use Rattle.log_records.specs.Image.{image}
use Rattle.std.specs.Prelude.{IsSome}
use Rattle.buffer_pool.specs.Pool.{IsPoolOf, PageState, PoolView, state_at}
use Rattle.buffer_pool.proofs.Pools.{pool_begun}
use Rattle.buffer_pool.proofs.pool.Pool.write_begin.Goals as goal

pub returns-clause-kept : goal.returns-clause-kept
returns-clause-kept g c = λ log of.
    let stored_in = g.S.PageStore.stored in
    let it = c.self.inside in
    let q = c.args.image in
    let old : PoolView g.row.S.Denot =
    record {
      store = it.store;
      frames = it.limit;
      room = it.frames.room;
      resident = it.frames.pages;
      states = it.states;
    } in
    let view : old ≡ c.args.self.now = c.self.view_is in
    let there : q.number < length it.states =
    omega (arith, c.requires.within, ap (λ (v : PoolView g.row.S.Denot). length v.states) view) in
    let now = All-contains (λ page. page ≡ image log.records page.number) c.args.self.now.resident q of.resident
    c.requires.current in
    subst (λ (states : List PageState). IsPoolOf stored_in log (record old { states = states }))
    (sym c.begin_write.ensures)
    (pool_begun stored_in log old q there now c.self.invariant.whole.enough
    (subst (λ (v : PoolView g.row.S.Denot). IsSome (state_at v q.number).rec_lsn) (sym view) c.requires.dirty)
    (subst (IsPoolOf stored_in log) (sym view) of))
