use Rattle.std.proofs.Common.{◌≡◌, sym, ap, subst}
use Rattle.std.specs.Prelude.{None, Ok, Some}
use Rattle.fuzzy_ckpt.specs.Ckpt.{CkptView, Phase}
use Rattle.engine_calls.specs.declared.event.Answer.TheVariants as answer
use Rattle.engine_calls.specs.declared.event.Event.TheVariants as event
use Rattle.aries_core.specs.declared.open_ckpt.OpenCkpt.TheVariants.{Pages}
use Rattle.engine_rules.specs.EngineView.{EngineView, engine_view}
use Rattle.aries_core.specs.OpenCkpt.{media_view}
use Rattle.engine_rules.specs.Refusal.{refusal}
use Rattle.engine_rules.specs.Step.{Step}
use Rattle.aries_core.proofs.CkptCalls.{ckpt_begun}
use Rattle.aries_core.proofs.engine.Engine.ckpt_begin.Goals as goal

pub invariant_of-self-2 : goal.invariant_of-self-2
invariant_of-self-2 g c =
    let it = c.self.inside in
    let stored = g.S.PageStore.stored in
    let ckpts = media_view it.master it.session it.vault.copies it.returns.made in
    let none : refusal (engine_view stored it.log it.pool ckpts).state event.CkptBegin ≡ None =
    subst (λ (v : EngineView g.row.S.Denot g.row.D.Denot). refusal v.state event.CkptBegin ≡ None)
    (sym c.self.view_is) c.in_ok-find_no_ckpt.ensures.free in
    (ckpt_begun stored it.log c.begin.new.log it.txns.table it.pool ckpts _ c.end-lsn.result c.self.invariant none
    c.in-Ok.ensures.logged c.begin.ensures.forced_end
    (ap (λ (x : CkptView Phase). record ckpts { session = Some x }) c.in-Ok.ensures.begun) c.end-lsn.ensures).kept

pub returns-clause-step : goal.returns-clause-step
returns-clause-step g c =
    let it = c.self.inside in
    let stored = g.S.PageStore.stored in
    let ckpts = media_view it.master it.session it.vault.copies it.returns.made in
    let none : refusal (engine_view stored it.log it.pool ckpts).state event.CkptBegin ≡ None =
    subst (λ (v : EngineView g.row.S.Denot g.row.D.Denot). refusal v.state event.CkptBegin ≡ None)
    (sym c.self.view_is) c.in_ok-find_no_ckpt.ensures.free in
    let after = media_view it.master (Some (Pages c.in-Ok.ckpt)) it.vault.copies it.returns.made in
    subst (λ (v : EngineView g.row.S.Denot g.row.D.Denot). Step v.state event.CkptBegin
    (Ok (answer.Logged c.end-lsn.result)) (engine_view stored c.begin.new.log it.pool after).state) c.self.view_is
    (ckpt_begun stored it.log c.begin.new.log it.txns.table it.pool ckpts after c.end-lsn.result c.self.invariant none
    c.in-Ok.ensures.logged c.begin.ensures.forced_end
    (ap (λ (x : CkptView Phase). record ckpts { session = Some x }) c.in-Ok.ensures.begun) c.end-lsn.ensures).step
