use Rattle.std.proofs.Common.{◌≡◌, ◌≤◌, ◌∷◌, [], List, length, ap, subst, sym, arith}
use Rattle.log_records.specs.Log.{with_next}
use Rattle.log_records.specs.declared.record.Record.TheVariants.{Extend}
use Rattle.buffer_pool.specs.Pool.{IsPoolOf, PageState, PoolView}
use Rattle.buffer_pool.proofs.Grown.{if_err, pool_grown, pool_stored, sought_grown, whole_grown, whole_stored}
use Rattle.buffer_pool.proofs.pool.Pool.grow.Goals as goal

pub invariant_of-self : goal.invariant_of-self
invariant_of-self g c = record {
  whole = whole_stored (g.S.PageStore.stored c.self.inside.store) (g.S.PageStore.stored c.grow.new.self)
      c.self.inside.states c.grow.ensures.grown.0 c.grow.ensures.grown.1 c.self.invariant.whole;
  sought = c.self.invariant.sought;
}

pub returns-in_err-grow-clause-kept : goal.returns-in_err-grow-clause-kept
returns-in_err-grow-clause-kept g c = if_err c.from_residual.result _ (λ log of.
    let stored_in = g.S.PageStore.stored in
    let it = c.self.inside in
    let old : PoolView g.row.S.Denot =
    record {
      store = it.store;
      frames = it.limit;
      room = it.frames.room;
      resident = it.frames.pages;
      states = it.states;
    } in
    let view : old ≡ c.args.self.now = c.self.view_is in
    pool_stored stored_in log old c.grow.new.self c.grow.ensures.grown.0 c.self.invariant.whole.enough
    c.grow.ensures.grown.1 (subst (IsPoolOf stored_in log) (sym view) of))

pub invariant_of-self-2 : goal.invariant_of-self-2
invariant_of-self-2 g c = record {
  whole = whole_grown (g.S.PageStore.stored c.self.inside.store) (g.S.PageStore.stored c.grow.new.self)
      c.self.inside.states c.grow-2.new.self c.args.count c.grow.ensures.grown.0 c.grow.ensures.grown.1 c.grow-2.ensures
      c.in_ok-grow.ensures.enough c.requires.few c.self.invariant.whole;
  sought = sought_grown c.self.inside.states c.args.count c.grow-2.new.self c.self.inside.frames.slots
      c.self.inside.frames.marks c.grow-2.ensures c.self.invariant.sought;
}

pub returns-clause-next : goal.returns-clause-next
returns-clause-next g c = λ log lsn of valid.
    let stored_in = g.S.PageStore.stored in
    let it = c.self.inside in
    let old : PoolView g.row.S.Denot =
    record {
      store = it.store;
      frames = it.limit;
      room = it.frames.room;
      resident = it.frames.pages;
      states = it.states;
    } in
    let view : old ≡ c.args.self.now = c.self.view_is in
    let more : length it.states ≤ c.args.count =
    omega (arith, c.requires.more, ap (λ (v : PoolView g.row.S.Denot). length v.states) view) in
    let stored = pool_stored stored_in log old c.grow.new.self c.grow.ensures.grown.0 c.self.invariant.whole.enough
    c.grow.ensures.grown.1 (subst (IsPoolOf stored_in log) (sym view) of) in
    subst (λ (states : List PageState). IsPoolOf stored_in (with_next log (Extend lsn c.args.count ∷ []))
    (record old { store = c.grow.new.self; states = states }))
    (sym c.grow-2.ensures)
    (pool_grown stored_in log (record old { store = c.grow.new.self }) lsn c.args.count more valid stored)
