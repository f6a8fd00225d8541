use Rattle.std.proofs.Common.{subst, sym}
use Rattle.log_records.specs.Coverage.{IsPast}
use Rattle.engine_rules.specs.EngineView.{EngineView, engine_view}
use Rattle.aries_core.specs.OpenCkpt.{media_view}
use Rattle.aries_core.proofs.Repairs.{chain_covers}
use Rattle.aries_core.proofs.engine.Engine.copied.Goals as goal

pub returns-clause-past : goal.returns-clause-past
returns-clause-past g c =
    let it = c.self.inside in
    let s = (engine_view g.S.PageStore.stored it.log it.pool
    (media_view it.master it.session it.vault.copies it.returns.made)).state in
    let p = c.args.page in
    let members = c.in_ok-chain.chain in
    let covers = chain_covers s c.args.copy p members c.self.invariant.fit c.in_ok-chain.ensures.chain
    c.in_ok-chain.ensures.found in
    subst (λ (v : EngineView g.row.S.Denot g.row.D.Denot). IsPast v.state.log p c.content.result) c.self.view_is
    (subst (IsPast s.log p) (sym c.content.ensures.content) covers.past)
