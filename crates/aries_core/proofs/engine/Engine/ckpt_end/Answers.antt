use Rattle.std.proofs.Common.{◌≡◌, sym, ap, subst, ◌∙◌}
use Rattle.std.specs.Prelude.{Err, None, Ok, Some}
use Rattle.std.specs.Option.{option_map}
use Rattle.fuzzy_ckpt.specs.Answers.{FailsAs, IsLogFault}
use Rattle.fuzzy_ckpt.specs.Ckpt.{gathered_ckpt}
use Rattle.engine_calls.specs.declared.event.Answer.TheVariants as answer
use Rattle.engine_calls.specs.declared.event.Event.TheVariants as event
use Rattle.engine_calls.specs.declared.refusal.Refusal.TheVariants.{LogFault}
use Rattle.engine_rules.specs.EngineView.{EngineView, engine_view}
use Rattle.aries_core.specs.OpenCkpt.{media_view, view_of}
use Rattle.engine_rules.specs.Refusal.{refusal}
use Rattle.engine_rules.specs.Step.{Step}
use Rattle.aries_core.proofs.CkptCalls.{ckpt_ended, ckpt_unforced, session_covered, whole_covered}
use Rattle.aries_core.proofs.Uses.{force_failed, was_forced}
use Rattle.std.proofs.Common.{arith, length}
use Rattle.std.proofs.lemmas.List.{length-take}
use Rattle.aries_core.proofs.engine.Engine.ckpt_end.Goals as goal

pub invariant_of-self-in-Err-LogFault : goal.invariant_of-self-in-Err-LogFault
invariant_of-self-in-Err-LogFault g c =
    let it = c.self.inside in
    let stored = g.S.PageStore.stored in
    let ckpts = media_view it.master it.session it.vault.copies it.returns.made in
    let none : refusal (engine_view stored it.log it.pool ckpts).state event.CkptEnd ≡ None =
    subst (λ (v : EngineView g.row.S.Denot g.row.D.Denot). refusal v.state event.CkptEnd ≡ None)
    (sym c.self.view_is) c.in_ok-find_gathered.ensures.gathered in
    (ckpt_unforced stored it.log c.finish.new.log it.txns.table it.pool ckpts
    (media_view it.master c.take.new.self it.vault.copies it.returns.made)
    (gathered_ckpt c.in-Some-into_gathered.ckpt) c.self.invariant none
    (ap (option_map view_of) (sym c.take.ensures.value ∙ c.in-Some.is) ∙ ap Some (sym c.in-Some-into_gathered.ensures))
    (subst (FailsAs it.log c.finish.new.log c.in-Some-into_gathered.ckpt) c.in-Err-LogFault.field-0-is
    c.in-Err-LogFault.ensures.failed) (ap (λ o. media_view it.master o it.vault.copies it.returns.made) c.take.ensures.after)).kept

pub invariant_of-self-2 : goal.invariant_of-self-2
invariant_of-self-2 g c =
    let it = c.self.inside in
    let stored = g.S.PageStore.stored in
    let ckpts = media_view it.master it.session it.vault.copies it.returns.made in
    let none : refusal (engine_view stored it.log it.pool ckpts).state event.CkptEnd ≡ None =
    subst (λ (v : EngineView g.row.S.Denot g.row.D.Denot). refusal v.state event.CkptEnd ≡ None)
    (sym c.self.view_is) c.in_ok-find_gathered.ensures.gathered in
    (ckpt_ended stored it.log c.finish.new.log it.txns.table it.pool ckpts
    (media_view (Some c.in-Ok.point) c.take.new.self it.vault.copies it.returns.made)
    (gathered_ckpt c.in-Some-into_gathered.ckpt) c.in-Ok.point c.self.invariant none
    (ap (option_map view_of) (sym c.take.ensures.value ∙ c.in-Some.is) ∙ ap Some (sym c.in-Some-into_gathered.ensures))
    c.in-Ok.ensures.logged c.in-Ok.ensures.forced
    (ap (λ o. media_view (Some c.in-Ok.point) o it.vault.copies it.returns.made) c.take.ensures.after)
    c.in-Ok.ensures.point).kept

pub returns-in-Err-LogFault-clause-step : goal.returns-in-Err-LogFault-clause-step
returns-in-Err-LogFault-clause-step g c =
    let it = c.self.inside in
    let stored = g.S.PageStore.stored in
    let ckpts = media_view it.master it.session it.vault.copies it.returns.made in
    let after = media_view it.master c.take.new.self it.vault.copies it.returns.made in
    let none : refusal (engine_view stored it.log it.pool ckpts).state event.CkptEnd ≡ None =
    subst (λ (v : EngineView g.row.S.Denot g.row.D.Denot). refusal v.state event.CkptEnd ≡ None)
    (sym c.self.view_is) c.in_ok-find_gathered.ensures.gathered in
    subst (λ (v : EngineView g.row.S.Denot g.row.D.Denot). Step v.state event.CkptEnd (Err LogFault)
    (engine_view stored c.finish.new.log it.pool after).state) c.self.view_is
    (ckpt_unforced stored it.log c.finish.new.log it.txns.table it.pool ckpts after
    (gathered_ckpt c.in-Some-into_gathered.ckpt) c.self.invariant none
    (ap (option_map view_of) (sym c.take.ensures.value ∙ c.in-Some.is) ∙ ap Some (sym c.in-Some-into_gathered.ensures))
    (subst (FailsAs it.log c.finish.new.log c.in-Some-into_gathered.ckpt) c.in-Err-LogFault.field-0-is
    c.in-Err-LogFault.ensures.failed) (ap (λ o. media_view it.master o it.vault.copies it.returns.made) c.take.ensures.after)).step

pub returns-clause-step : goal.returns-clause-step
returns-clause-step g c =
    let it = c.self.inside in
    let stored = g.S.PageStore.stored in
    let ckpts = media_view it.master it.session it.vault.copies it.returns.made in
    let point = c.in-Ok.point in
    let after = media_view (Some point) c.take.new.self it.vault.copies it.returns.made in
    let none : refusal (engine_view stored it.log it.pool ckpts).state event.CkptEnd ≡ None =
    subst (λ (v : EngineView g.row.S.Denot g.row.D.Denot). refusal v.state event.CkptEnd ≡ None)
    (sym c.self.view_is) c.in_ok-find_gathered.ensures.gathered in
    subst (λ (v : EngineView g.row.S.Denot g.row.D.Denot). Step v.state event.CkptEnd
    (Ok (answer.Point point.begin point.end point.redo)) (engine_view stored c.finish.new.log it.pool after).state)
    c.self.view_is
    (ckpt_ended stored it.log c.finish.new.log it.txns.table it.pool ckpts after
    (gathered_ckpt c.in-Some-into_gathered.ckpt) point c.self.invariant none
    (ap (option_map view_of) (sym c.take.ensures.value ∙ c.in-Some.is) ∙ ap Some (sym c.in-Some-into_gathered.ensures))
    c.in-Ok.ensures.logged c.in-Ok.ensures.forced
    (ap (λ o. media_view (Some point) o it.vault.copies it.returns.made) c.take.ensures.after) c.in-Ok.ensures.point).step

pub returns-in-Err-LogFault-clause-device : goal.returns-in-Err-LogFault-clause-device
returns-in-Err-LogFault-clause-device g c =
    let by_device : IsLogFault c.in-Err-LogFault.field-0 =
    subst IsLogFault (sym c.in-Err-LogFault.field-0-is) tt in
    let said = c.in-Err-LogFault.ensures in
    rw (← c.self.view_is)
    (force_failed LogFault tt (said.last_call by_device) (said.cause by_device) c.finish.ensures.same_bound
    (said.past_bound by_device))

pub returns-clause-device : goal.returns-clause-device
returns-clause-device g c =
    rw (← c.self.view_is)
    (was_forced c.in-Ok.point c.in-Ok.ensures.called c.in-Ok.ensures.no_failure c.finish.ensures.same_bound)

pub finish-requires-clause-covered : goal.finish-requires-clause-covered
finish-requires-clause-covered g c =
    let it = c.self.inside in
    let stored = g.S.PageStore.stored in
    let ckpts = media_view it.master it.session it.vault.copies it.returns.made in
    let v = gathered_ckpt c.in-Some-into_gathered.ckpt in
    whole_covered stored it.log.log it.pool v c.self.invariant.pool_of_log
    (omega (
      arith,
      c.self.invariant.fit.counted.stored,
      c.self.invariant.pool_of_log.pages,
      length-take (length it.pool.states) (stored it.pool.store),
    ))
    (session_covered stored (engine_view stored it.log it.pool ckpts).state it.txns.table it.pool ckpts v c.self.invariant
    (ap (option_map view_of) (sym c.take.ensures.value ∙ c.in-Some.is)
    ∙ ap Some (sym c.in-Some-into_gathered.ensures))).1
