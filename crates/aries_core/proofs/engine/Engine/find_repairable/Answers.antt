use Rattle.std.proofs.Common.{◌≡◌, ◌<◌, true, false, length, sym, ap, subst, ◌∙◌, arith}
use Rattle.std.specs.Prelude.{Some, None, is_some}
use Rattle.copy_vault.specs.Vault.{complete_refusal}
use Rattle.engine_calls.specs.declared.event.Event.TheVariants as event
use Rattle.engine_calls.specs.declared.refusal.Refusal.TheVariants.{WriteBegun}
use Rattle.engine_rules.specs.EngineState.{image_of, volume_pages}
use Rattle.engine_rules.specs.EngineView.{EngineView, engine_view}
use Rattle.aries_core.specs.OpenCkpt.{media_view}
use Rattle.engine_rules.specs.Refusal.{refusal}
use Rattle.aries_core.proofs.PoolStates.{image_at, repair_begun, repair_may}
use Rattle.aries_core.proofs.engine.Engine.find_repairable.Goals as goal

pub returns-then-is_writing-clause-refused : goal.returns-then-is_writing-clause-refused
returns-then-is_writing-clause-refused g c =
    let it = c.self.inside in
    let stored = g.S.PageStore.stored in
    let media = media_view it.master it.session it.vault.copies it.returns.made in
    let s = (engine_view stored it.log it.pool media).state in
    let below : c.args.page < volume_pages s = omega (arith, c.pages.ensures, c.if-page-pages.false) in
    let there : c.args.page < length it.pool.states = omega (arith, below, c.self.invariant.pool_of_log.pages) in
    let begun : is_some (image_of s c.args.page) ≡ true =
    ap is_some (image_at stored it.log it.pool media c.args.page there) ∙ sym c.is_writing.ensures ∙ c.if-is_writing.true in
    let whole = c.in_ok-complete_copy.ensures.ok in
    subst (λ (v : EngineView g.row.S.Denot g.row.D.Denot).
    refusal v.state (event.Repair c.args.copy c.args.page) ≡ Some WriteBegun) c.self.view_is
    (repair_begun s c.args.copy c.args.page (ap complete_refusal whole) below begun)

pub returns-clause-may : goal.returns-clause-may
returns-clause-may g c =
    let it = c.self.inside in
    let stored = g.S.PageStore.stored in
    let media = media_view it.master it.session it.vault.copies it.returns.made in
    let s = (engine_view stored it.log it.pool media).state in
    let below : c.args.page < volume_pages s = omega (arith, c.pages.ensures, c.if-page-pages.false) in
    let there : c.args.page < length it.pool.states = omega (arith, below, c.self.invariant.pool_of_log.pages) in
    let idle : is_some (image_of s c.args.page) ≡ false =
    ap is_some (image_at stored it.log it.pool media c.args.page there) ∙ sym c.is_writing.ensures ∙ c.if-is_writing.false in
    let whole = c.in_ok-complete_copy.ensures.ok in
    subst (λ (v : EngineView g.row.S.Denot g.row.D.Denot).
    refusal v.state (event.Repair c.args.copy c.args.page) ≡ None) c.self.view_is
    (repair_may s c.args.copy c.args.page (ap complete_refusal whole) below idle)
