use Rattle.std.proofs.Common.{◌≡◌, ◌∙◌, ◌<◌, List, length, set, ap, subst, sym, arith}
use Rattle.std.specs.Prelude.{None}
use Rattle.page_core.specs.declared.page.Page.{Page}
use Rattle.log_records.proofs.Public.{number-image}
use Rattle.buffer_pool.specs.Pool.{IsPoolOf, PageState, PoolView, is_clean_in, state_at, state_in}
use Rattle.buffer_pool.proofs.Repaired.{is_idle, pool_half, pool_repaired, state_idle, whole_half, whole_set}
use Rattle.buffer_pool.proofs.Sought.{others_set, pool_noted}
use Rattle.buffer_pool.proofs.pool.Pool.repair.Goals as goal

pub write-requires-clause-numbered : goal.write-requires-clause-numbered
write-requires-clause-numbered g c =
    let it = c.requires.now in
    ap (λ (x : Page). x.number) it.1.1 ∙ number-image it.0.records c.args.number

pub invariant_of-self : goal.invariant_of-self
invariant_of-self g c =
    let it = c.requires.now in
    let named = ap (λ (x : Page). x.number) it.1.1 ∙ number-image it.0.records c.args.number in
    record {
      whole = whole_half (g.S.PageStore.stored c.self.inside.store) (g.S.PageStore.stored c.write.new.self)
          c.self.inside.states c.args.number c.args.rebuilt.now named c.in_err-write.ensures.either c.self.invariant.whole;
      sought = c.self.invariant.sought;
    }

pub invariant_of-self-2 : goal.invariant_of-self-2
invariant_of-self-2 g c =
    let it = c.requires.now in
    let named = ap (λ (x : Page). x.number) it.1.1 ∙ number-image it.0.records c.args.number in
    record {
      whole = whole_set (g.S.PageStore.stored c.self.inside.store) (g.S.PageStore.stored c.write.new.self)
          c.self.inside.states c.end_write.new.self c.args.number c.args.rebuilt.now _ named c.in_ok-write.ensures.stored
          c.end_write.ensures c.self.invariant.whole;
      sought = c.note.ensures.sought (is_clean_in c.self.inside.states) c.self.invariant.sought
          (others_set c.self.inside.states c.end_write.new.self c.args.number _ c.end_write.ensures);
    }

pub returns-in_err-write-clause-kept : goal.returns-in_err-write-clause-kept
returns-in_err-write-clause-kept g c = λ log of now.
    let stored_in = g.S.PageStore.stored in
    let it = c.self.inside in
    let n = c.args.number in
    let q = c.args.rebuilt.now in
    let old : PoolView g.row.S.Denot =
    record {
      store = it.store;
      frames = it.limit;
      room = it.frames.room;
      resident = it.frames.pages;
      states = it.states;
    } in
    let view : old ≡ c.args.self.now = c.self.view_is in
    let there : n < length it.states =
    omega (arith, c.requires.within, ap (λ (v : PoolView g.row.S.Denot). length v.states) view) in
    let idle : (state_in it.states n).writing ≡ None =
    ap (λ (v : PoolView g.row.S.Denot). (state_at v n).writing) view
    ∙ is_idle (state_at c.args.self.now n).writing c.requires.idle in
    pool_half stored_in log old c.write.new.self n q there idle now c.self.invariant.whole.enough
    c.in_err-write.ensures.either (subst (IsPoolOf stored_in log) (sym view) of)

pub returns-clause-kept : goal.returns-clause-kept
returns-clause-kept g c = λ log of now.
    let stored_in = g.S.PageStore.stored in
    let it = c.self.inside in
    let n = c.args.number in
    let q = c.args.rebuilt.now in
    let store = c.write.new.self in
    let old : PoolView g.row.S.Denot =
    record {
      store = it.store;
      frames = it.limit;
      room = it.frames.room;
      resident = it.frames.pages;
      states = it.states;
    } in
    let view : old ≡ c.args.self.now = c.self.view_is in
    let there : n < length it.states =
    omega (arith, c.requires.within, ap (λ (v : PoolView g.row.S.Denot). length v.states) view) in
    let idle : (state_in it.states n).writing ≡ None =
    ap (λ (v : PoolView g.row.S.Denot). (state_at v n).writing) view
    ∙ is_idle (state_at c.args.self.now n).writing c.requires.idle in
    let pool = subst (IsPoolOf stored_in log) (sym view) of in
    let state = state_idle log n (state_in it.states n) q.lsn (pool.states n _ there) idle in
    pool_noted stored_in log (record old { store = store; states = c.end_write.new.self }) (c.note.new.self.room)
    c.note.new.self.pages c.note.ensures.pages
    (subst (λ (states : List PageState). IsPoolOf stored_in log (record old { store = store; states = states }))
    (sym (c.end_write.ensures ∙ ap (λ (s : PageState). set it.states n s) state))
    (pool_repaired stored_in log old store n q there idle now c.self.invariant.whole.enough
    c.in_ok-write.ensures.stored pool))
