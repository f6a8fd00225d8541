use Rattle.aries_core.specs.OpenCkpt.{media_view}
use Rattle.aries_core.proofs.WriteCalls.{force_kept}
use Rattle.aries_core.proofs.engine.Engine.force_log.Goals as goal

pub invariant_of-self : goal.invariant_of-self
invariant_of-self g c =
    let it = c.self.inside in
    force_kept g.S.PageStore.stored it.log c.force.new.self it.txns.table it.pool
    (media_view it.master it.session it.vault.copies it.returns.made)
    c.self.invariant c.force.ensures.same c.force.ensures.rising c.force.ensures.at_record

pub returns-clause-last_call : goal.returns-clause-last_call
returns-clause-last_call g c = rw (← c.self.view_is) c.force.ensures.last_call
