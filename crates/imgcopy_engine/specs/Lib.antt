-- The definitions that the contracts of the front's items cite, crate by crate. What a contract
-- takes from `Rattle.page_core.specs.Volume`, a user of the front takes from
-- `Rattle.imgcopy_engine.specs.page_core.Volume`.
pub use Rattle.aries_core.specs as aries_core
pub use Rattle.buffer_pool.specs as buffer_pool
pub use Rattle.copy_audit.specs as copy_audit
pub use Rattle.copy_coverage.specs as copy_coverage
pub use Rattle.copy_vault.specs as copy_vault
pub use Rattle.engine_calls.specs as engine_calls
pub use Rattle.engine_restart.specs as engine_restart
pub use Rattle.engine_rules.specs as engine_rules
pub use Rattle.engine_run.specs as engine_run
pub use Rattle.file_devices.specs as file_devices
pub use Rattle.fuzzy_ckpt.specs as fuzzy_ckpt
pub use Rattle.log_prefix.specs as log_prefix
pub use Rattle.log_records.specs as log_records
pub use Rattle.log_rules.specs as log_rules
pub use Rattle.log_store.specs as log_store
pub use Rattle.loser_undo.specs as loser_undo
pub use Rattle.media_restore.specs as media_restore
pub use Rattle.page_core.specs as page_core
pub use Rattle.page_decisions.specs as page_decisions
pub use Rattle.page_redo.specs as page_redo
pub use Rattle.page_store.specs as page_store
pub use Rattle.saved_files.specs as saved_files
pub use Rattle.settlement.specs as settlement
pub use Rattle.txn_table.specs as txn_table
pub mod Ending
pub mod Reopened
pub mod Run
pub mod StopText
pub mod Taken
pub mod Trying
