-- The laws of this crate that proofs of the crates above it cite. Its other lemmas are its own.

-- Marks, one record after another.
pub use Rattle.settlement.proofs.Marking.{times-append}
-- The sessions of a run, one after another.
pub use Rattle.settlement.proofs.Sessions.{all_more, at_most_one, marked_apart, none_marked}
pub use Rattle.settlement.proofs.Sessions.{times_all, times_one, times_sessions, wrong_in}
-- Each record of a transaction has one receipt: as many receipts as records, no two of one LSN.
pub use Rattle.settlement.proofs.Answered.{one_change_each, one_receipt_each, txn_records_split, update_of_txn}
-- The receipts of changes are as many as the Updates that a log has got since the run began.
pub use Rattle.settlement.proofs.Changed.{changes_add_up}
-- What lasts of receipts that stand: a Commit, and what a session reads of its own.
pub use Rattle.settlement.proofs.Kept.{commits_kept, own_write}
