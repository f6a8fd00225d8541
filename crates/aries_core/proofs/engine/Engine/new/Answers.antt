use Rattle.std.proofs.Common.{[], List, sym, ap, subst, arith}
use Rattle.log_records.specs.declared.record.Record.{Record}
use Rattle.log_records.specs.Log.{Log}
use Rattle.log_rules.proofs.Public.{linked_none}
use Rattle.buffer_pool.specs.Pool.{IsPoolOf}
use Rattle.txn_table.specs.Returns.{HasReturns}
use Rattle.txn_table.proofs.Public.{returns_none}
use Rattle.txn_table.specs.TxnTable.{IsTableOf}
use Rattle.log_rules.specs.Checkpoint.{open_checkpoint}
use Rattle.std.specs.Option.{option_map}
use Rattle.engine_rules.specs.EngineState.{IsFit}
use Rattle.engine_rules.specs.Gather.{pages_left, session_of}
use Rattle.engine_rules.proofs.Public.{new_is_fit}
use Rattle.aries_core.proofs.PoolStates.{new_is}
use Rattle.aries_core.proofs.engine.Engine.new.Goals as goal

pub invariant_of-result : goal.invariant_of-result
invariant_of-result g c =
    let n = c.args.setup.pages in
    let stored = g.S.PageStore.stored in
    let state = new_is stored c.in-Ok-new.log c.in-Ok.pool c.args.store n c.args.setup.frames
    c.new-in-Ok-new-3.result.copies c.new-in-Ok-new-2.result.made c.new-in-Ok-new-3.ensures c.in-Ok-new.ensures.empty
    c.in-Ok-new.ensures.forced_end (c.in-Ok.ensures.new n c.requires.formatted) c.requires.formatted in
    record {
      fit = subst IsFit (sym state) (new_is_fit n c.args.setup.frames c.requires.pages);
      table_of_log =
          subst (λ (rs : List Record). IsTableOf rs c.new-in-Ok-new.result.table)
          (sym (ap (λ (l : Log). l.records) c.in-Ok-new.ensures.empty))
          (record { linked = linked_none; few = omega arith; made = c.new-in-Ok-new.ensures });
      pool_of_log =
          subst (λ (l : Log). IsPoolOf stored l c.in-Ok.pool) (sym c.in-Ok-new.ensures.empty)
          (c.in-Ok.ensures.empty n c.requires.formatted);
      session_of_log = sym (ap (λ (l : Log). option_map (session_of l pages_left)
          (open_checkpoint l.records)) c.in-Ok-new.ensures.empty);
      returns_of_log =
          subst (λ (l : Log). HasReturns l.records c.new-in-Ok-new-2.result.made) (sym c.in-Ok-new.ensures.empty)
          (subst (HasReturns []) (sym c.new-in-Ok-new-2.ensures) returns_none);
    }

pub returns-in-Ok-new-clause-empty : goal.returns-in-Ok-new-clause-empty
returns-in-Ok-new-clause-empty g c =
    new_is g.S.PageStore.stored c.in-Ok-new.log c.in-Ok.pool c.args.store c.args.setup.pages c.args.setup.frames
    c.new-in-Ok-new-3.result.copies c.new-in-Ok-new-2.result.made c.new-in-Ok-new-3.ensures c.in-Ok-new.ensures.empty
    c.in-Ok-new.ensures.forced_end (c.in-Ok.ensures.new c.args.setup.pages c.requires.formatted) c.requires.formatted
