use Rattle.std.proofs.Common.{◌∙◌, List, sym, ap, subst}
use Rattle.std.specs.Option.{option_map}
use Rattle.page_core.specs.declared.page.Page.{Page}
use Rattle.log_records.specs.Log.{Log}
use Rattle.log_rules.specs.Checkpoint.{open_checkpoint}
use Rattle.buffer_pool.specs.Pool.{IsPoolOf, clean_pool}
use Rattle.txn_table.specs.Returns.{HasReturns}
use Rattle.txn_table.specs.TxnTable.{IsTableOf}
use Rattle.txn_table.proofs.Public.{returns_ended}
use Rattle.engine_rules.specs.EngineState.{EngineState, IsFit, log_of}
use Rattle.engine_rules.specs.Gather.{session_of}
use Rattle.aries_core.specs.OpenCkpt.{media_view}
use Rattle.engine_rules.proofs.Public.{resumed_fit, resumed_is, session_for}
use Rattle.aries_core.proofs.engine.Engine.resume.Goals as goal

pub returns-clause-state : goal.returns-clause-state
returns-clause-state g c =
    let known = c.args.parts.checkpoints in
    resumed_is g.S.PageStore.stored c.resume-2.result c.in-Ok.pool c.args.store c.args.parts.log c.args.frames
    (media_view known.last c.session_of.result c.args.parts.vault.copies c.new.result.made)
    c.resume-2.ensures.log c.resume-2.ensures.forced_end
    (c.in-Ok.ensures.clean ∙ ap (λ (ps : List Page). clean_pool c.args.store ps c.args.frames) c.requires.pages)
    (c.requires.stored ∙ c.requires.pages) (c.session_of.ensures ∙ c.requires.checkpoints.begun)

pub invariant_of-result : goal.invariant_of-result
invariant_of-result g c =
    let log = c.args.parts.log in
    let known = c.args.parts.checkpoints in
    let stored = g.S.PageStore.stored in
    let state = returns-clause-state g c in
    let log_is = c.resume-2.ensures.log in
    let valid = c.records-records.ensures.valid in
    let may = c.requires.may in
    let table : IsTableOf log.records c.ended.result.table = record {
      linked = may.linked;
      few = valid.count;
      made = c.ended.ensures log.records may.closed c.requires.begun;
    } in
    let returns : HasReturns log.records c.new.result.made =
    subst (HasReturns log.records) (sym c.new.ensures) (returns_ended log.records may.linked may.closed) in
    record {
      fit = subst IsFit (sym state) (resumed_fit log c.args.frames known.last c.args.parts.vault.copies valid may
          c.requires.checkpoints.last);
      table_of_log = subst (λ (l : Log). IsTableOf l.records c.ended.result.table) (sym log_is) table;
      pool_of_log = subst (λ (l : Log). IsPoolOf stored l c.in-Ok.pool) (sym log_is)
          (c.in-Ok.ensures.of_log log valid c.requires.pages);
      session_of_log = c.session_of.ensures ∙ c.requires.checkpoints.begun
          ∙ session_for log (open_checkpoint log.records)
          ∙ ap (λ (s : EngineState). option_map (session_of (log_of s) s.left) (open_checkpoint s.log)) (sym state);
      returns_of_log = subst (λ (l : Log). HasReturns l.records c.new.result.made) (sym log_is) returns;
    }
