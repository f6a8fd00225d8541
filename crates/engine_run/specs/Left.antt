-- What an engine leaves with its store and its device.
use Rattle.std.specs.Prelude.{◌≡◌, List}
use Rattle.log_records.specs.declared.record.Record.{Record}
use Rattle.copy_coverage.specs.Retired.{RetiredView}
use Rattle.log_store.specs.WrittenLog.{IsWritten}
use Rattle.log_store.specs.declared.device.LogDevice as device
use Rattle.page_store.specs.Store.{IsGrown}
use Rattle.page_store.specs.declared.store.PageStore as store
use Rattle.engine_rules.specs.EngineState.{IsFit, log_of}
use Rattle.engine_rules.specs.EngineView.{EngineView}
use Rattle.engine_rules.specs.Step.{written_log_of}
use Rattle.engine_run.specs.Life.{IsLifeOf}

-- an engine that began with this log has left this, its store and its device: what it has forced of
-- its log is on the device, and the pages that it has stored are in the store
pub record IsLeftBy {S D : Type 0} (pages : store.Ghosts S) (log : device.Ghosts D)
    (before : List Record) (left : RetiredView) (store : S) (device : D) : Type 0 where
  pub engine : EngineView S D
  pub fit : IsFit engine.state
  pub life : IsLifeOf before engine.state
  pub log_is : left.log ≡ log_of engine.state
  pub end_is : left.forced_end ≡ engine.state.forced_end
  pub copies_is : left.copies ≡ engine.state.copies
  pub store_is : store ≡ engine.store
  pub device_is : device ≡ engine.device
  pub stored : IsGrown engine.state.stored (pages.stored engine.store)
  pub written : IsWritten log.bytes (written_log_of engine)
