use Rattle.std.proofs.Common.{subst}
use Rattle.std.specs.Prelude.{Ok}
use Rattle.engine_calls.specs.declared.event.Answer.TheVariants as answer
use Rattle.engine_calls.specs.declared.event.Event.TheVariants as event
use Rattle.engine_rules.specs.EngineState.{with_copies}
use Rattle.engine_rules.specs.EngineView.{engine_view}
use Rattle.aries_core.specs.OpenCkpt.{media_view}
use Rattle.engine_rules.specs.Step.{Step}
use Rattle.aries_core.proofs.CopyCalls.{copies_kept, full_step}
use Rattle.aries_core.proofs.engine.Engine.copy_full.Goals as goal
use Rattle.aries_core.proofs.engine.Engine.copy_full.Given as given

full_made : (g : given.Over) (c : goal.In_ok-open_full g) → Step (engine_view g.S.PageStore.stored c.self.inside.log
    c.self.inside.pool
    (media_view c.self.inside.master c.self.inside.session c.self.inside.vault.copies c.self.inside.returns.made)).state
    event.CopyFull (Ok (answer.Copied c.in_ok-open_full.field-0))
    (with_copies (engine_view g.S.PageStore.stored c.self.inside.log c.self.inside.pool
    (media_view c.self.inside.master c.self.inside.session c.self.inside.vault.copies c.self.inside.returns.made)).state
    c.open_full.new.self.copies)
full_made g c =
    let it = c.self.inside in
    let s = (engine_view g.S.PageStore.stored it.log it.pool
    (media_view it.master it.session it.vault.copies it.returns.made)).state in
    let ok = c.in_ok-open_full.ensures in
    full_step s c.open_full.new.self.copies c.in_ok-open_full.field-0 c.in-Some.master c.in-Some.is ok.ok ok.id ok.opened

pub invariant_of-self-2 : goal.invariant_of-self-2
invariant_of-self-2 g c =
    let it = c.self.inside in
    copies_kept g.S.PageStore.stored it.log it.txns.table it.pool it.pool
    (media_view it.master it.session it.vault.copies it.returns.made)
    c.open_full.new.self.copies event.CopyFull (Ok (answer.Copied c.in_ok-open_full.field-0)) c.self.invariant tt
    c.self.invariant.pool_of_log (full_made g c)

pub returns-clause-step : goal.returns-clause-step
returns-clause-step g c =
    let it = c.self.inside in
    let s = (engine_view g.S.PageStore.stored it.log it.pool
    (media_view it.master it.session it.vault.copies it.returns.made)).state in
    subst (λ v. Step v.state event.CopyFull (Ok (answer.Copied c.in_ok-open_full.field-0))
    (with_copies s c.open_full.new.self.copies)) c.self.view_is (full_made g c)
