-- An engine as contracts see it: its state, with its page store and its log's device.
use Rattle.std.specs.Prelude.{◌≡◌, take, List, length}
use Rattle.std.specs.Prelude.{Option}
use Rattle.std.specs.Option.{option_map, option_map_or}
use Rattle.buffer_pool.specs.Pool.{IsPoolOf, PoolView, writing_of, written_of}
use Rattle.log_rules.specs.Checkpoint.{open_checkpoint}
use Rattle.page_core.specs.declared.page.Page.{Page}
use Rattle.log_rules.specs.Table.{Table}
use Rattle.log_store.specs.WrittenLog.{WrittenLog}
use Rattle.txn_table.specs.declared.returns.Return.{Return}
use Rattle.txn_table.specs.Returns.{HasReturns}
use Rattle.txn_table.specs.TxnTable.{IsTableOf}
use Rattle.fuzzy_ckpt.specs.declared.point.Point.{Point}
use Rattle.fuzzy_ckpt.specs.Ckpt.{CkptView, Phase}
use Rattle.copy_vault.specs.Vault.{CopyState}
use Rattle.engine_rules.specs.EngineState.{EngineState, IsFit, log_of}
use Rattle.engine_rules.specs.Gather.{left_of, pages_left, session_of}

pub record EngineView (S D : Type 0) : Type 0 where
  pub state : EngineState
  pub store : S
  pub device : D

-- what an engine keeps beside its log, its table and its pool: the last complete checkpoint, the
-- session of the open one, the image copies, and the Comps that go back to savepoints
pub record MediaView : Type 0 where
  pub master : Option Point
  pub session : Option (CkptView Phase)
  pub copies : List CopyState
  pub returns : List Return

-- what an engine is, by the log that it writes, the pool of its pages, its checkpoints and copies;
-- the store may have more pages than the volume
abbrev pub engine_view : {S D : Type 0} → (S → List Page) → WrittenLog D → PoolView S
    → MediaView → EngineView S D
engine_view stored it pool ckpts = record {
  state = record {
    pages = it.log.pages;
    log = it.log.records;
    forced_end = it.forced_end;
    master = ckpts.master;
    frames = pool.frames;
    resident = pool.resident;
    stored = take (length pool.states) (stored pool.store);
    written = written_of pool.states;
    writing = writing_of pool.states;
    left = option_map_or (λ c. left_of c.phase) ckpts.session pages_left;
    copies = ckpts.copies;
  };
  store = pool.store;
  device = it.device;
}

-- the engine is fit, and its transaction table, its pool, the session of its checkpoint and its
-- Comps that go back to savepoints are those of its log
pub record IsConsistent {S : Type 0} (stored : S → List Page) (s : EngineState) (table : Table)
    (pool : PoolView S) (ckpts : MediaView) : Type 0 where
  pub fit : IsFit s
  pub table_of_log : IsTableOf s.log table
  pub pool_of_log : IsPoolOf stored (log_of s) pool
  pub session_of_log : ckpts.session
      ≡ option_map (session_of (log_of s) s.left) (open_checkpoint s.log)
  pub returns_of_log : HasReturns s.log ckpts.returns
