use Rattle.std.proofs.Common.{◌∙◌, sym, ap, subst}
use Rattle.std.specs.Prelude.{Ok}
use Rattle.std.specs.Option.{option_map_or}
use Rattle.engine_calls.specs.declared.event.Answer.TheVariants as answer
use Rattle.engine_calls.specs.declared.event.Event.TheVariants as event
use Rattle.engine_rules.specs.EngineState.{with_copies}
use Rattle.engine_rules.specs.EngineView.{engine_view}
use Rattle.engine_rules.specs.Step.{Step}
use Rattle.aries_core.specs.OpenCkpt.{media_view}
use Rattle.aries_core.proofs.CopyCalls.{copies_kept, inc_step}
use Rattle.aries_core.proofs.engine.Engine.copy_inc.Goals as goal
use Rattle.aries_core.proofs.engine.Engine.copy_inc.Given as given

inc_made : (g : given.Over) (c : goal.In_ok-open_inc g) → Step (engine_view g.S.PageStore.stored c.self.inside.log
    c.self.inside.pool
    (media_view c.self.inside.master c.self.inside.session c.self.inside.vault.copies c.self.inside.returns.made)).state
    (event.CopyInc c.args.parent) (Ok (answer.Copied c.in_ok-open_inc.field-0))
    (with_copies (engine_view g.S.PageStore.stored c.self.inside.log c.self.inside.pool
    (media_view c.self.inside.master c.self.inside.session c.self.inside.vault.copies c.self.inside.returns.made)).state
    c.open_inc.new.self.copies)
inc_made g c =
    let it = c.self.inside in
    let s = (engine_view g.S.PageStore.stored it.log it.pool
    (media_view it.master it.session it.vault.copies it.returns.made)).state in
    let ok = c.in_ok-open_inc.ensures in
    inc_step s c.open_inc.new.self.copies c.args.parent c.noted_pages-pages.result c.noted_begin-begin.result
    c.noted_redo-redo.result c.in_ok-open_inc.field-0 ok.ok
    (c.noted_pages-pages.ensures ∙ ap (λ v. option_map_or (λ p. p.pages) v.state.master 0) (sym c.self.view_is))
    (c.noted_begin-begin.ensures ∙ ap (λ v. option_map_or (λ p. p.begin) v.state.master 0) (sym c.self.view_is))
    (c.noted_redo-redo.ensures
    ∙ ap (λ v. option_map_or (λ p. p.redo) v.state.master 0) (sym c.self.view_is)) ok.id ok.opened

pub invariant_of-self-2 : goal.invariant_of-self-2
invariant_of-self-2 g c =
    let it = c.self.inside in
    copies_kept g.S.PageStore.stored it.log it.txns.table it.pool it.pool
    (media_view it.master it.session it.vault.copies it.returns.made)
    c.open_inc.new.self.copies (event.CopyInc c.args.parent)
    (Ok (answer.Copied c.in_ok-open_inc.field-0)) c.self.invariant tt
    c.self.invariant.pool_of_log (inc_made g c)

pub returns-clause-step : goal.returns-clause-step
returns-clause-step g c =
    let it = c.self.inside in
    let s = (engine_view g.S.PageStore.stored it.log it.pool
    (media_view it.master it.session it.vault.copies it.returns.made)).state in
    subst (λ v. Step v.state (event.CopyInc c.args.parent) (Ok (answer.Copied c.in_ok-open_inc.field-0))
    (with_copies s c.open_inc.new.self.copies)) c.self.view_is (inc_made g c)
