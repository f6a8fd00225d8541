use Rattle.std.specs.Prelude.{Ok}
use Rattle.engine_calls.specs.declared.event.Answer.TheVariants as answer
use Rattle.engine_calls.specs.declared.event.Event.TheVariants as event
use Rattle.engine_rules.specs.EngineView.{engine_view}
use Rattle.aries_core.specs.OpenCkpt.{media_view}
use Rattle.aries_core.proofs.CopyCalls.{copies_kept, seal_step}
use Rattle.aries_core.proofs.engine.Engine.seal.Goals as goal

pub invariant_of-self-2 : goal.invariant_of-self-2
invariant_of-self-2 g c =
    let it = c.self.inside in
    let stored = g.S.PageStore.stored in
    let media = media_view it.master it.session it.vault.copies it.returns.made in
    let s = (engine_view stored it.log it.pool media).state in
    let ok = c.in_ok-seal.ensures in
    copies_kept stored it.log it.txns.table it.pool it.pool media c.seal.new.self.copies (event.Seal c.args.copy)
    (Ok (answer.Sealed c.in_ok-seal.field-0)) c.self.invariant tt c.self.invariant.pool_of_log
    (seal_step s c.seal.new.self.copies c.args.copy c.in_ok-seal.field-0 ok.ok ok.count ok.sealed)
