use Rattle.std.proofs.Common.{arith, ◌≡◌, ◌∙◌, sym, ap, subst, refl}
use Rattle.std.specs.Prelude.{None, Ok}
use Rattle.engine_calls.specs.declared.event.Event.TheVariants as event
use Rattle.engine_rules.specs.EngineState.{log_of}
use Rattle.engine_rules.specs.EngineView.{engine_view}
use Rattle.aries_core.specs.OpenCkpt.{media_view}
use Rattle.copy_vault.specs.Vault.{answer_in, decided, state_of}
use Rattle.engine_rules.specs.Refusal.{refusal}
use Rattle.engine_rules.specs.Step.{Step, reply_of, took_answer}
use Rattle.engine_rules.specs.EngineState.{take_answer}
use Rattle.aries_core.proofs.CopyCalls.{asked_is, copies_kept, take_room, take_step}
use Rattle.aries_core.proofs.engine.Engine.take.Goals as goal
use Rattle.aries_core.proofs.engine.Engine.take.Given as given
use Rattle.aries_core.proofs.engine.Engine.take.Goals.{in-Kept, in-Taken}
use Rattle.page_core.specs.declared.page.Page.{Page}
use Rattle.page_core.specs.Page.{formatted}
use Rattle.buffer_pool.proofs.Public.{read_is}
use Rattle.aries_core.proofs.Uses.{was_asked}
use Rattle.aries_core.proofs.PoolStates.{page_at}
use Rattle.std.proofs.Common.{◌<◌, length}
use Rattle.copy_coverage.proofs.Public.{count_below-not_more}
use Rattle.copy_coverage.specs.Copied.{copy_in}
use Rattle.engine_rules.proofs.Public.{take_passes}

pub decide-requires-clause-there : goal.decide-requires-clause-there
decide-requires-clause-there g c =
    let it = c.self.inside in
    let s = (engine_view g.S.PageStore.stored it.log it.pool
    (media_view it.master it.session it.vault.copies it.returns.made)).state in
    take_room s c.make_room.new.self.copies c.args.copy c.args.page
    (subst (λ v. refusal v.state (event.Take c.args.copy c.args.page) ≡ None) (sym c.self.view_is)
    c.in_ok-find_takeable.ensures.free)
    c.make_room.ensures.copies

take_made : (g : given.Over) (c : goal.Joined-decide g) → Step (engine_view g.S.PageStore.stored c.self.inside.log
    c.self.inside.pool
    (media_view c.self.inside.master c.self.inside.session c.self.inside.vault.copies c.self.inside.returns.made)).state
    (event.Take c.args.copy c.args.page) (reply_of took_answer c.match-decide.result)
    (engine_view g.S.PageStore.stored c.self.inside.log c.stored.new.self
    (media_view c.self.inside.master c.self.inside.session c.decide.new.self.copies c.self.inside.returns.made)).state
take_made g c =
    let it = c.self.inside in
    let stored = g.S.PageStore.stored in
    let media = media_view it.master it.session it.vault.copies it.returns.made in
    let s = (engine_view stored it.log it.pool media).state in
    let none : refusal s (event.Take c.args.copy c.args.page) ≡ None =
    subst (λ v. refusal v.state (event.Take c.args.copy c.args.page) ≡ None) (sym c.self.view_is)
    c.in_ok-find_takeable.ensures.free in
    let passes = take_passes s c.args.copy c.args.page none in
    let whole = (c.self.invariant.fit.copied.each c.args.copy passes.view (ap copy_in passes.is_read)).whole in
    let within : c.args.page < length it.pool.states =
    omega (
      arith,
      passes.within,
      whole,
      count_below-not_more (log_of s) passes.view.begin,
      c.self.invariant.pool_of_log.pages,
    ) in
    let same = c.make_room.ensures.copies in
    let page = c.in-Ok.stored in
    let answered = c.decide.ensures.answer ∙ ap (λ cs. answer_in cs (state_of cs c.args.copy) page) same in
    let made = c.decide.ensures.decided ∙ ap (λ cs. decided cs c.args.copy c.args.page page) same in
    let read = page_at stored it.log it.pool media c.args.page within
    ∙ sym (read_is (stored it.pool.store) c.args.page page (formatted c.args.page) c.in-Ok.ensures.found) in
    let step = take_step s c.decide.new.self.copies c.args.copy c.args.page page c.decide.result
    (take_answer c.decide.result page) none read answered made refl in
    let reply : reply_of took_answer c.match-decide.result
    ≡ Ok (take_answer c.decide.result page) = elim c.match-decide.branch [
      | in-Taken w ↦ ap (reply_of took_answer) w.result-is ∙ ap (λ d. Ok (take_answer d page)) (sym w.in-Taken.is)
      | in-Kept w ↦ ap (reply_of took_answer) w.result-is ∙ ap (λ d. Ok (take_answer d page)) (sym w.in-Kept.is)
    ] in
    subst (λ r. Step s (event.Take c.args.copy c.args.page) r (engine_view stored it.log c.stored.new.self
    (media_view it.master it.session c.decide.new.self.copies it.returns.made)).state) (sym reply)
    (subst (Step s (event.Take c.args.copy c.args.page) (Ok (take_answer c.decide.result page)))
    (sym (asked_is stored it.log it.pool c.stored.new.self media c.decide.new.self.copies c.in-Ok.ensures.same
    c.in-Ok.ensures.rest))
    step)

pub invariant_of-self-2 : goal.invariant_of-self-2
invariant_of-self-2 g c =
    let it = c.self.inside in
    let stored = g.S.PageStore.stored in
    copies_kept stored it.log it.txns.table it.pool c.stored.new.self
    (media_view it.master it.session it.vault.copies it.returns.made)
    c.decide.new.self.copies (event.Take c.args.copy c.args.page)
    (reply_of took_answer c.match-decide.result) c.self.invariant tt
    (c.in-Ok.ensures.kept it.log.log c.self.invariant.pool_of_log) (take_made g c)

pub returns-clause-step : goal.returns-clause-step
returns-clause-step g c =
    let it = c.self.inside in
    subst (λ v. Step v.state (event.Take c.args.copy c.args.page) (reply_of took_answer c.match-decide.result)
    (engine_view g.S.PageStore.stored it.log c.stored.new.self
    (media_view it.master it.session c.decide.new.self.copies it.returns.made)).state) c.self.view_is (take_made g c)

pub returns-clause-store : goal.returns-clause-store
returns-clause-store g c =
    let it = c.self.inside in
    let stored = g.S.PageStore.stored in
    let p = c.args.page in
    let media = media_view it.master it.session it.vault.copies it.returns.made in
    let s = (engine_view stored it.log it.pool media).state in
    let none : refusal s (event.Take c.args.copy c.args.page) ≡ None =
    subst (λ v. refusal v.state (event.Take c.args.copy c.args.page) ≡ None) (sym c.self.view_is)
    c.in_ok-find_takeable.ensures.free in
    let passes = take_passes s c.args.copy c.args.page none in
    let whole = (c.self.invariant.fit.copied.each c.args.copy passes.view (ap copy_in passes.is_read)).whole in
    let within : c.args.page < length it.pool.states =
    omega (
      arith,
      passes.within,
      whole,
      count_below-not_more (log_of s) passes.view.begin,
      c.self.invariant.pool_of_log.pages,
    ) in
    let asks = subst (λ (x : Page). g.S.PageStore.gave it.pool.store p (Ok x) c.stored.new.self.store)
    (read_is (stored it.pool.store) p c.in-Ok.stored (formatted p) c.in-Ok.ensures.found
    ∙ sym (page_at stored it.log it.pool media p within)) c.in-Ok.ensures.gave in
    rw (← c.self.view_is)
    (elim c.match-decide.branch [
      | in-Taken w ↦ rw w.result-is (was_asked _ asks c.in-Ok.ensures.no_failure)
      | in-Kept w ↦ rw w.result-is (was_asked _ asks c.in-Ok.ensures.no_failure)
    ])

pub stored-requires : goal.stored-requires
stored-requires g c =
    let it = c.self.inside in
    let s = (engine_view g.S.PageStore.stored it.log it.pool
    (media_view it.master it.session it.vault.copies it.returns.made)).state in
    let fit = c.self.invariant.fit in
    let none : refusal s (event.Take c.args.copy c.args.page) ≡ None =
    subst (λ v. refusal v.state (event.Take c.args.copy c.args.page) ≡ None) (sym c.self.view_is)
    c.in_ok-find_takeable.ensures.free in
    let passes = take_passes s c.args.copy c.args.page none in
    let whole = (fit.copied.each c.args.copy passes.view (ap copy_in passes.is_read)).whole in
    omega (
      arith,
      passes.within,
      whole,
      count_below-not_more (log_of s) passes.view.begin,
      c.self.invariant.pool_of_log.pages,
    )
