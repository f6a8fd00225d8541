use Rattle.std.proofs.Common.{◌≡◌, sym, ap, subst, ◌∙◌, refl}
use Rattle.std.specs.Prelude.{Err, None, Ok, Some, if◌then◌else◌}
use Rattle.std.specs.Option.{option_map}
use Rattle.engine_calls.specs.declared.event.Answer.TheVariants as answer
use Rattle.engine_calls.specs.declared.event.Event.TheVariants as event
use Rattle.engine_calls.specs.declared.refusal.Refusal.TheVariants.{OutOfMemory}
use Rattle.engine_rules.specs.EngineView.{EngineView, engine_view}
use Rattle.engine_rules.specs.Gather.{is_done, left_of}
use Rattle.aries_core.specs.OpenCkpt.{media_view, view_of}
use Rattle.engine_rules.specs.Refusal.{refusal}
use Rattle.engine_rules.specs.Step.{Step, gather_answer}
use Rattle.aries_core.proofs.CkptCalls.{ckpt_gathered, ckpt_same, gather_takes, session_covered, whole_covered}
use Rattle.std.proofs.Common.{arith, length}
use Rattle.std.proofs.lemmas.List.{length-take}
use Rattle.aries_core.proofs.engine.Engine.ckpt_gather.Goals as goal
use Rattle.aries_core.proofs.engine.Engine.ckpt_gather.Goals.{else-done, then-done}

pub gather-requires-clause-covered : goal.gather-requires-clause-covered
gather-requires-clause-covered g c =
    let it = c.self.inside in
    let stored = g.S.PageStore.stored in
    let ckpts = media_view it.master it.session it.vault.copies it.returns.made in
    whole_covered stored it.log.log it.pool (view_of c.in-Some.session) c.self.invariant.pool_of_log
    (omega (
      arith,
      c.self.invariant.fit.counted.stored,
      c.self.invariant.pool_of_log.pages,
      length-take (length it.pool.states) (stored it.pool.store),
    ))
    (session_covered stored (engine_view stored it.log it.pool ckpts).state it.txns.table it.pool ckpts
    (view_of c.in-Some.session) c.self.invariant (ap (option_map view_of) (sym c.take.ensures.value ∙ c.in-Some.is))).1

pub invariant_of-self : goal.invariant_of-self
invariant_of-self g c =
    let it = c.self.inside in
    let stored = g.S.PageStore.stored in
    let ckpts = media_view it.master it.session it.vault.copies it.returns.made in
    let none : refusal (engine_view stored it.log it.pool ckpts).state event.CkptGather ≡ None =
    subst (λ (v : EngineView g.row.S.Denot g.row.D.Denot). refusal v.state event.CkptGather ≡ None)
    (sym c.self.view_is) c.in_ok-find_gather.ensures.open in
    (ckpt_gathered stored it.log c.gather.new.log it.txns.table it.pool ckpts _ (view_of c.in-Some.session)
    (view_of c.in-Ok.session)
    (if is_done (left_of (view_of c.in-Ok.session).phase) then answer.Done else answer.More) c.self.invariant none
    (ap (option_map view_of) (sym c.take.ensures.value
    ∙ c.in-Some.is)) c.in-Ok.ensures.logged c.gather.ensures.forced_end
    refl c.in-Ok.ensures.gathered refl).kept

pub returns-after-done-clause-step : goal.returns-after-done-clause-step
returns-after-done-clause-step g c =
    let it = c.self.inside in
    let stored = g.S.PageStore.stored in
    let ckpts = media_view it.master it.session it.vault.copies it.returns.made in
    let after = media_view it.master (Some c.in-Ok.session) it.vault.copies it.returns.made in
    let none : refusal (engine_view stored it.log it.pool ckpts).state event.CkptGather ≡ None =
    subst (λ (v : EngineView g.row.S.Denot g.row.D.Denot). refusal v.state event.CkptGather ≡ None)
    (sym c.self.view_is) c.in_ok-find_gather.ensures.open in
    let done : is_done (left_of (view_of c.in-Ok.session).phase) ≡ c.is_gathered-done.result =
    sym c.is_gathered-done.ensures in
    let said : gather_answer c.if-done.result
    ≡ (if is_done (left_of (view_of c.in-Ok.session).phase) then answer.Done else answer.More) =
    elim c.if-done.branch [
      | then-done w ↦ rw (done, w.if-done.true) (ap gather_answer w.result-is)
      | else-done w ↦ rw (done, w.if-done.false) (ap gather_answer w.result-is)
    ] in
    subst (λ (v : EngineView g.row.S.Denot g.row.D.Denot). Step v.state event.CkptGather
    (Ok (gather_answer c.if-done.result)) (engine_view stored c.gather.new.log it.pool after).state) c.self.view_is
    (ckpt_gathered stored it.log c.gather.new.log it.txns.table it.pool ckpts after (view_of c.in-Some.session)
    (view_of c.in-Ok.session) (gather_answer c.if-done.result) c.self.invariant none
    (ap (option_map view_of) (sym c.take.ensures.value ∙ c.in-Some.is)) c.in-Ok.ensures.logged
    c.gather.ensures.forced_end refl c.in-Ok.ensures.gathered said).step

pub returns-in-Err-clause-step : goal.returns-in-Err-clause-step
returns-in-Err-clause-step g c =
    let it = c.self.inside in
    let stored = g.S.PageStore.stored in
    let ckpts = media_view it.master it.session it.vault.copies it.returns.made in
    let after = media_view it.master (Some c.in-Err.session) it.vault.copies it.returns.made in
    let none : refusal (engine_view stored it.log it.pool ckpts).state event.CkptGather ≡ None =
    subst (λ (v : EngineView g.row.S.Denot g.row.D.Denot). refusal v.state event.CkptGather ≡ None)
    (sym c.self.view_is) c.in_ok-find_gather.ensures.open in
    let has = ap (option_map view_of) (sym c.take.ensures.value ∙ c.in-Some.is) in
    let alike : after ≡ ckpts =
    ap (λ o. record ckpts { session = o }) (ap Some c.in-Err.ensures.refused ∙ sym has) in
    subst (λ (v : EngineView g.row.S.Denot g.row.D.Denot). Step v.state event.CkptGather (Err OutOfMemory)
    (engine_view stored c.gather.new.log it.pool after).state) c.self.view_is
    (ckpt_same stored it.log c.gather.new.log it.txns.table it.pool ckpts after event.CkptGather OutOfMemory c.self.invariant
    none (gather_takes stored it.log it.txns.table it.pool ckpts (view_of c.in-Some.session) c.self.invariant none has
    c.in-Err.ensures.appends) refl c.in-Err.ensures.same c.gather.ensures.forced_end alike).step
