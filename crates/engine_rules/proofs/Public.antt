-- The laws of this crate that proofs of the crates above it cite. Its other lemmas are its own.

-- The open checkpoint and the master, while records are appended and pages are stored.
pub use Rattle.engine_rules.proofs.Beside.{master_forced}
-- The calls that the log shows, after a step and after a run.
pub use Rattle.engine_rules.proofs.Calls.{work_of_run}
-- The image copies of an engine, as events and replies alone tell of them.
pub use Rattle.engine_rules.proofs.Catalogues.{copies_of_run, entry_is}
-- Laws of checkpoints, of steps and of whole runs.
pub use Rattle.engine_rules.proofs.CkptLaws.{new_is_sized}
-- The Commits that were answered, in the log after a run and in what a crash leaves of it.
pub use Rattle.engine_rules.proofs.Commits.{IsForcedIn, commits_are_kept, forced_later, longer}
pub use Rattle.engine_rules.proofs.Commits.{stays_forced, stays_kept}
-- When calls on copies, and a repair, are not refused.
pub use Rattle.engine_rules.proofs.CopyPasses.{repair_passes, take_passes}
-- Each engine is fit: a new one, and one after a step.
pub use Rattle.engine_rules.proofs.Fit.{Comes, comes, comes_few, comes_with, fit_appended}
pub use Rattle.engine_rules.proofs.Fit.{fit_of_run, fit_of_step, new_is_fit}
-- The record of an accepted event may come behind the log.
pub use Rattle.engine_rules.proofs.Follows.{follows}
-- What the steps of a gather append, and what is gathered after them.
pub use Rattle.engine_rules.proofs.GatherSteps.{begun_before, cursor_after_txn, end_ckpt_follows}
pub use Rattle.engine_rules.proofs.GatherSteps.{first_txn, gathering_of, new_is_session}
pub use Rattle.engine_rules.proofs.GatherSteps.{past_is_session, session_same}
-- What a step of a gather does: five cases.
pub use Rattle.engine_rules.proofs.Gathers.{PassesPages, PassesTxns, TakesPages, TakesTxn, WasDone}
pub use Rattle.engine_rules.proofs.Gathers.{at_left, ckpt_end_is, gather_case, pages_record}
pub use Rattle.engine_rules.proofs.Gathers.{txn_entry, with_pages, with_txn}
-- The volume grows: an engine that was fit stays so.
pub use Rattle.engine_rules.proofs.Growth.{extended, extended_fit}
-- The record that an accepted call appends, and what the call has passed.
pub use Rattle.engine_rules.proofs.Makes.{gather_record_has, none_is_not_some}
-- A page that comes into memory leaves the engine fit.
pub use Rattle.engine_rules.proofs.PageComes.{fetched_fit, needed_within, page_comes}
-- Laws of stored pages, of steps and of whole runs.
pub use Rattle.engine_rules.proofs.PageLaws.{written_of_run}
-- A run that goes on by one step, and what its replies tell of the device.
pub use Rattle.engine_rules.proofs.Plays.{Tells, by_device, by_store, left_sound, plays_push}
pub use Rattle.engine_rules.proofs.Plays.{run_push, tells_push, within_push}
-- What an event that is not refused has passed.
pub use Rattle.engine_rules.proofs.Refusals.{ckpt_begin_passes, ckpt_end_passes, extend_passes}
pub use Rattle.engine_rules.proofs.Refusals.{gather_passes, slot_passes, write_begin_passes}
pub use Rattle.engine_rules.proofs.Refusals.{write_end_passes}
-- An engine that goes on where an older one was lost is fit.
pub use Rattle.engine_rules.proofs.Resuming.{resumed_fit, resumed_is, session_for}
-- The room of a log, as more of it is forced.
pub use Rattle.engine_rules.proofs.Rooms.{room_forced}
-- Laws of steps, over whole runs.
pub use Rattle.engine_rules.proofs.Runs.{frames_of_run}
