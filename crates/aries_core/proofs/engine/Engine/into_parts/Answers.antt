use Rattle.std.proofs.Common.{ℕ, sym, subst}
use Rattle.std.specs.Prelude.{Option}
use Rattle.log_records.specs.Log.{Log}
use Rattle.log_store.specs.declared.master.Master.{Master}
use Rattle.copy_coverage.specs.Retired.{IsRetired}
use Rattle.engine_rules.specs.EngineView.{engine_view}
use Rattle.aries_core.specs.OpenCkpt.{media_view}
use Rattle.aries_core.proofs.Retires.{left_by}
use Rattle.aries_core.proofs.engine.Engine.into_parts.Goals as goal

pub new-retired-requires : goal.new-retired-requires
new-retired-requires g c =
    let it = c.self.inside in
    let s = (engine_view g.S.PageStore.stored it.log it.pool
    (media_view it.master it.session it.vault.copies it.returns.made)).state in
    subst (λ (log : Log). IsRetired (record {
      log = log;
      forced_end = c.forced_end-forced_end.result;
      master = c.master_of.result;
      copies = it.vault.copies;
    })) (sym c.into_parts-log.ensures.log)
    (subst (λ (end : ℕ). IsRetired
    (record { log = it.log.log; forced_end = end; master = c.master_of.result; copies = it.vault.copies }))
    (sym c.forced_end-forced_end.ensures.end)
    (subst (λ (m : Option Master). IsRetired
    (record { log = it.log.log; forced_end = it.log.forced_end; master = m; copies = it.vault.copies }))
    (sym c.master_of.ensures) (left_by s c.self.invariant.fit)))
