-- The laws of this crate that proofs of the crates above it cite. Its other lemmas are its own.

-- What may stand at the end of a valid log: what is pending there, and the numbers of its open transactions.
pub use Rattle.log_rules.proofs.AtEnd.{All-last_of, All-pending, StandsBefore, all_stand}
pub use Rattle.log_rules.proofs.AtEnd.{last_lsn_is_before, last_pending, length_begun, lsn_is_lsn}
pub use Rattle.log_rules.proofs.AtEnd.{noted, open_is_txn, undo_fits, undo_has_no_before}
pub use Rattle.log_rules.proofs.AtEnd.{valid_next}
-- The numbers of the transactions of a linked log.
pub use Rattle.log_rules.proofs.Begun.{begun_bounds, next_is_new, none_before_begin, open_has_begun}
pub use Rattle.log_rules.proofs.Begun.{open_in-IsStrictlyIncreasing, some_from_begin, zero_not_open}
-- A table of the open transactions says which record may come next.
pub use Rattle.log_rules.proofs.Checks.{entry_in-table_of, holder_in-table_of, may_note}
pub use Rattle.log_rules.proofs.Checks.{owed_in-table_of}
-- Complete checkpoints of linked logs.
pub use Rattle.log_rules.proofs.Completes.{complete-of_end, complete_later, end-of_complete}
pub use Rattle.log_rules.proofs.Completes.{redo_not_past}
-- Filters of lists, and what one more element changes.
pub use Rattle.log_rules.proofs.Filters.{filter-filter, filter-map, filter_agree_but}
pub use Rattle.log_rules.proofs.Filters.{filter_map_push, filter_push, filter_push_in}
pub use Rattle.log_rules.proofs.Filters.{filter_push_out, find-map, map_agree_but}
-- What the records so far make says whether the next one may follow.
pub use Rattle.log_rules.proofs.Followed.{after_checkpoint, gives_more, made_next, may_come}
pub use Rattle.log_rules.proofs.Followed.{may_follow, number_of_volume}
-- Linked logs, one record after another.
pub use Rattle.log_rules.proofs.Histories.{along_linked, linked-take, linked_none, linked_pop}
pub use Rattle.log_rules.proofs.Histories.{linked_push}
-- The changes of a slot that are pending for a transaction.
pub use Rattle.log_rules.proofs.Owned.{HasChange}
-- What one more record changes in what a log says of its transactions.
pub use Rattle.log_rules.proofs.Pushes.{first_lsn_push, has_begun, has_ended, is_open_push}
pub use Rattle.log_rules.proofs.Pushes.{is_open_push_other, is_open_push_own, is_rolling_push}
pub use Rattle.log_rules.proofs.Pushes.{last_lsn_push, open_in_push_begin, open_in_push_last}
pub use Rattle.log_rules.proofs.Pushes.{open_in_push_same, pending_push, records_of_push_other}
pub use Rattle.log_rules.proofs.Pushes.{records_of_push_own, work_push}
-- How many records the open transactions of a linked log may still need, after one more record.
pub use Rattle.log_rules.proofs.Room.{claimed, claimed_abort, claimed_aside, claimed_begin}
pub use Rattle.log_rules.proofs.Room.{claimed_comp, claimed_push, claimed_update, needs}
pub use Rattle.log_rules.proofs.Room.{owed_push_last}
-- What a log says of one slot: the number in it, the committed one, and the pending changes of it.
pub use Rattle.log_rules.proofs.Slots.{committed_push, slots_of_image}
-- The table of a log after one more record.
pub use Rattle.log_rules.proofs.Steps.{entry_from, entry_of_push_other, not_among, table_of_push}
-- A linked log in which no transaction is open has the committed number in each slot.
pub use Rattle.log_rules.proofs.Undone.{changes_of_log, number_is_committed, slots_are_committed}
