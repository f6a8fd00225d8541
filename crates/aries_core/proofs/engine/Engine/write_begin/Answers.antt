use Rattle.std.proofs.Common.{◌≡◌, ℕ, ◌<◌, length, max, sym, ap, subst, ◌∙◌, arith}
use Rattle.std.specs.Prelude.{None, Ok}
use Rattle.page_core.specs.declared.page.Page.{Page}
use Rattle.buffer_pool.specs.Pool.{state_at, with_state, write_begun}
use Rattle.log_records.specs.Log.{Log}
use Rattle.log_store.specs.WrittenLog.{end_up_to}
use Rattle.engine_calls.specs.declared.event.Answer.TheVariants as answer
use Rattle.engine_calls.specs.declared.event.Event.TheVariants as event
use Rattle.engine_calls.specs.declared.refusal.Refusal.TheVariants.{LogFault}
use Rattle.engine_rules.specs.EngineState.{log_of}
use Rattle.engine_rules.specs.EngineView.{EngineView, engine_view}
use Rattle.engine_rules.specs.Refusal.{refusal}
use Rattle.engine_rules.specs.Step.{Step}
use Rattle.aries_core.specs.OpenCkpt.{media_view}
use Rattle.engine_rules.proofs.Public.{write_begin_passes}
use Rattle.aries_core.proofs.Asks.{failing, said}
use Rattle.aries_core.proofs.Uses.{force_failed, was_forced}
use Rattle.aries_core.proofs.WriteCalls.{Called, begun, force_kept}
use Rattle.aries_core.proofs.engine.Engine.write_begin.Given as given
use Rattle.aries_core.proofs.engine.Engine.write_begin.Goals as goal

pub returns-then-is_err-clause-device : goal.returns-then-is_err-clause-device
returns-then-is_err-clause-device g c =
    let err = sym c.is_err.ensures.value ∙ c.if-is_err.true in
    let records = ap (λ (l : Log). length l.records) c.force_to.ensures.same in
    rw (← c.self.view_is)
    (force_failed LogFault tt (failing c.force_to.result _ err c.force_to.ensures.last_call)
    (failing c.force_to.result _ err c.force_to.ensures.failure) c.force_to.ensures.same_bound
    (omega (arith, records, failing c.force_to.result _ err c.force_to.ensures.past_bound)))

pub returns-clause-device : goal.returns-clause-device
returns-clause-device g c =
    let ok = sym c.is_err.ensures.value ∙ c.if-is_err.false in
    rw (← c.self.view_is)
    (was_forced c.write_begin.result (said c.force_to.result _ ok c.force_to.ensures.called)
    (said c.force_to.result _ ok c.force_to.ensures.no_failure) c.force_to.ensures.same_bound)

-- a page of which a write begins is dirty, so it is in memory
pub image_of-requires : goal.image_of-requires
image_of-requires g c =
    let it = c.self.inside in
    let p = c.args.page in
    let s = (engine_view g.S.PageStore.stored it.log it.pool
    (media_view it.master it.session it.vault.copies it.returns.made)).state in
    let none : refusal s (event.WriteBegin p) ≡ None =
    subst (λ (v : EngineView g.row.S.Denot g.row.D.Denot). refusal v.state (event.WriteBegin p) ≡ None)
    (sym c.self.view_is) c.in_ok-find_dirty.ensures.dirty in
    let passes = write_begin_passes s p none in
    c.self.invariant.fit.held p passes.within passes.dirty

call : (g : given.Over) (c : goal.After-write_begin g)
    → Called g.S.PageStore.stored c.self.inside.log c.force_to.new.self c.self.inside.txns.table c.self.inside.pool
    c.write_begin.new.self
    (media_view c.self.inside.master c.self.inside.session c.self.inside.vault.copies c.self.inside.returns.made)
    (event.WriteBegin c.args.page)
    (Ok (answer.Writing c.write_begin.result))
call g c =
    let it = c.self.inside in
    let stored = g.S.PageStore.stored in
    let p = c.args.page in
    let q = c.in-Ok.image in
    let s = (engine_view stored it.log it.pool
    (media_view it.master it.session it.vault.copies it.returns.made)).state in
    let none : refusal s (event.WriteBegin p) ≡ None =
    subst (λ (v : EngineView g.row.S.Denot g.row.D.Denot). refusal v.state (event.WriteBegin p) ≡ None)
    (sym c.self.view_is) c.in_ok-find_dirty.ensures.dirty in
    let count = c.self.invariant.pool_of_log.pages in
    let below = (write_begin_passes s p none).within in
    let within : p < length it.pool.states = omega arith in
    let forced = said c.force_to.result _ (sym c.is_err.ensures.value ∙ c.if-is_err.false) c.force_to.ensures.forced in
    let number = c.in-Ok.ensures.numbered in
    begun stored it.log c.force_to.new.self it.txns.table it.pool c.write_begin.new.self
    (media_view it.master it.session it.vault.copies it.returns.made) p c.write_begin.result q
    c.self.invariant none within (c.in-Ok.ensures.image (log_of s) c.self.invariant.pool_of_log)
    c.write_begin.ensures.lsn c.force_to.ensures.same
    (forced ∙ ap (λ (x : Page). max it.log.forced_end (end_up_to it.log.log x.lsn)) c.page.ensures)
    (subst (λ (n : ℕ). c.write_begin.new.self ≡ with_state it.pool n (write_begun (state_at it.pool n) q)) number
    c.write_begin.ensures.begun)
    (c.write_begin.ensures.kept (log_of s) c.self.invariant.pool_of_log)

pub invariant_of-self : goal.invariant_of-self
invariant_of-self g c =
    let it = c.self.inside in
    force_kept g.S.PageStore.stored it.log c.force_to.new.self it.txns.table it.pool
    (media_view it.master it.session it.vault.copies it.returns.made)
    c.self.invariant c.force_to.ensures.same c.force_to.ensures.rising c.force_to.ensures.at_record

pub invariant_of-self-2 : goal.invariant_of-self-2
invariant_of-self-2 g c = (call g c).kept

pub returns-clause-step : goal.returns-clause-step
returns-clause-step g c =
    subst (λ (v : EngineView g.row.S.Denot g.row.D.Denot). Step v.state (event.WriteBegin c.args.page)
    (Ok (answer.Writing c.write_begin.result))
    (engine_view g.S.PageStore.stored c.force_to.new.self c.write_begin.new.self
    (media_view c.self.inside.master c.self.inside.session c.self.inside.vault.copies c.self.inside.returns.made)).state)
    c.self.view_is (call g c).step
