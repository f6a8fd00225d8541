use Rattle.std.proofs.Common.{◌≡◌, ◌∙◌, ◌<◌, List, length, ap, subst, sym, arith}
use Rattle.std.specs.Prelude.{Some}
use Rattle.page_core.specs.declared.page.Page.{Page}
use Rattle.buffer_pool.specs.Pool.{IsPoolOf, PageState, PoolView, is_clean_in, state_in}
use Rattle.buffer_pool.proofs.Pools.{pool_ended, pool_failed}
use Rattle.buffer_pool.proofs.Repaired.{whole_set}
use Rattle.buffer_pool.proofs.Sought.{others_set, pool_noted}
use Rattle.buffer_pool.proofs.pool.Pool.write_end.Goals as goal

pub returns-in_err-write-clause-kept : goal.returns-in_err-write-clause-kept
returns-in_err-write-clause-kept g c = λ log of.
    let stored_in = g.S.PageStore.stored in
    let it = c.self.inside in
    let n = c.args.number in
    let q = c.page-page.result.now in
    let old : PoolView g.row.S.Denot =
    record {
      store = it.store;
      frames = it.limit;
      room = it.frames.room;
      resident = it.frames.pages;
      states = it.states;
    } in
    let view : old ≡ c.args.self.now = c.self.view_is in
    let there : n < length it.states =
    omega (arith, c.requires.within, ap (λ (v : PoolView g.row.S.Denot). length v.states) view) in
    let here : (state_in it.states n).writing ≡ Some q =
    sym c.in-Some.ensures.image ∙ ap Some (sym c.page-page.ensures) in
    pool_failed stored_in log old c.write.new.self n q there here c.self.invariant.whole.enough
    c.in_err-write.ensures.either (subst (IsPoolOf stored_in log) (sym view) of)

pub returns-clause-kept : goal.returns-clause-kept
returns-clause-kept g c = λ log of.
    let stored_in = g.S.PageStore.stored in
    let it = c.self.inside in
    let n = c.args.number in
    let q = c.page-page.result.now in
    let store = c.write.new.self in
    let old : PoolView g.row.S.Denot =
    record {
      store = it.store;
      frames = it.limit;
      room = it.frames.room;
      resident = it.frames.pages;
      states = it.states;
    } in
    let view : old ≡ c.args.self.now = c.self.view_is in
    let there : n < length it.states =
    omega (arith, c.requires.within, ap (λ (v : PoolView g.row.S.Denot). length v.states) view) in
    let here : (state_in it.states n).writing ≡ Some q =
    sym c.in-Some.ensures.image ∙ ap Some (sym c.page-page.ensures) in
    pool_noted stored_in log (record old { store = store; states = c.end_write.new.self }) (c.note.new.self.room)
    c.note.new.self.pages c.note.ensures.pages
    (subst (λ (states : List PageState). IsPoolOf stored_in log (record old { store = store; states = states }))
    (sym c.end_write.ensures)
    (pool_ended stored_in log old store n q there here c.self.invariant.whole.enough c.in_ok-write.ensures.stored
    (subst (IsPoolOf stored_in log) (sym view) of)))

pub invariant_of-self-2 : goal.invariant_of-self-2
invariant_of-self-2 g c =
    let it = c.self.inside in
    let n = c.args.number in
    let numbered : c.page-page.result.now.number ≡ n =
    ap (λ (q : Page). q.number) c.page-page.ensures ∙ c.in-Some.ensures.numbered in
    record {
      whole = whole_set (g.S.PageStore.stored it.store) (g.S.PageStore.stored c.write.new.self) it.states
          c.end_write.new.self n c.page-page.result.now _ numbered c.in_ok-write.ensures.stored c.end_write.ensures
          c.self.invariant.whole;
      sought = c.note.ensures.sought (is_clean_in it.states) c.self.invariant.sought
          (others_set it.states c.end_write.new.self n _ c.end_write.ensures);
    }
