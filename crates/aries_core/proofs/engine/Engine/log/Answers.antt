use Rattle.std.proofs.Common.{length, subst, arith}
use Rattle.std.proofs.lemmas.List.{length-take}
use Rattle.page_store.specs.Store.{IsGrown}
use Rattle.engine_rules.specs.EngineView.{EngineView}
use Rattle.aries_core.proofs.PoolStates.{behind_volume}
use Rattle.aries_core.proofs.engine.Engine.log.Goals as goal

pub returns-clause-pages : goal.returns-clause-pages
returns-clause-pages g c =
    let it = c.self.inside in
    let stored = g.S.PageStore.stored in
    let kept = c.self.invariant in
    subst (λ (v : EngineView g.row.S.Denot g.row.D.Denot). IsGrown v.state.stored (stored v.store)) c.self.view_is
    (behind_volume stored it.log.log it.pool kept.pool_of_log
    (omega (
      arith,
      kept.fit.counted.stored,
      kept.pool_of_log.pages,
      length-take (length it.pool.states) (stored it.pool.store),
    )))
