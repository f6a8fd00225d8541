use Rattle.std.proofs.Common.{rules, subst}
use Rattle.std.specs.Prelude.{Err}
use Rattle.log_store.specs.WrittenLog.{IsWritten}
use Rattle.page_store.specs.Store.{IsGrown}
use Rattle.engine_rules.specs.Step.{written_log_of}
use Rattle.engine_run.proofs.Copying.{begun, opened}
use Rattle.engine_run.proofs.held.Held.open_copy.Goals as goal

pub returns-in-Err-clause-refused : goal.returns-in-Err-clause-refused
returns-in-Err-clause-refused g c =
    let old = c.args.self.now.engine in
    let new = c.begin_copy-begun.new.self.engine in
    begun g.S.PageStore g.D.LogDevice old new c.begin_copy-begun.ensures.store c.begin_copy-begun.ensures.device
    c.args.kind.now (Err c.in-Err.why) (search rules) c.in-Err.ensures.step (subst (λ v. IsGrown v.engine.state.stored (g.S.PageStore.stored v.engine.store)) c.self-2.view_is c.log.ensures.pages)
    (subst (λ v. IsWritten g.D.LogDevice.bytes (written_log_of v.engine)) c.self-2.view_is c.log.ensures.records)

pub returns-clause-opened : goal.returns-clause-opened
returns-clause-opened g c =
    let old = c.args.self.now.engine in
    let new = c.begin_copy-begun.new.self.engine in
    opened g.S.PageStore g.D.LogDevice old new c.begin_copy-begun.ensures.store c.begin_copy-begun.ensures.device
    c.args.kind.now c.in-Ok.id c.copy_pages.result (search rules) c.in-Ok.ensures.step (subst (λ v. IsGrown v.engine.state.stored (g.S.PageStore.stored v.engine.store)) c.self-2.view_is c.log.ensures.pages)
    (subst (λ v. IsWritten g.D.LogDevice.bytes (written_log_of v.engine)) c.self-2.view_is c.log.ensures.records) c.copy_pages.ensures
