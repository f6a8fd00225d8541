use Rattle.std.specs.Prelude.{Ok}
use Rattle.engine_calls.specs.declared.event.Answer.TheVariants as answer
use Rattle.engine_calls.specs.declared.event.Event.TheVariants as event
use Rattle.engine_rules.specs.EngineView.{engine_view}
use Rattle.aries_core.specs.OpenCkpt.{media_view}
use Rattle.aries_core.proofs.CopyCalls.{copies_kept, drop_step}
use Rattle.aries_core.proofs.engine.Engine.drop_copy.Goals as goal

pub invariant_of-self-2 : goal.invariant_of-self-2
invariant_of-self-2 g c =
    let it = c.self.inside in
    let stored = g.S.PageStore.stored in
    let media = media_view it.master it.session it.vault.copies it.returns.made in
    let s = (engine_view stored it.log it.pool media).state in
    let ok = c.in_ok-drop_open.ensures in
    copies_kept stored it.log it.txns.table it.pool it.pool media c.drop_open.new.self.copies (event.DropCopy c.args.copy)
    (Ok answer.Dropped) c.self.invariant tt c.self.invariant.pool_of_log
    (drop_step s c.drop_open.new.self.copies c.args.copy ok.ok ok.dropped)
