-- The laws of this crate that proofs of the crates above it cite. Its other lemmas are its own.

-- An Extend leaves the table of the log what it is.
pub use Rattle.txn_table.proofs.Beside.{table_kept}
-- The Comps that go back to savepoints, where those of ended transactions may be left out.
pub use Rattle.txn_table.proofs.GoneReturns.{returns_ended, returns_none, returns_stay}
-- The records of a log, one by one.
pub use Rattle.txn_table.proofs.NextRecords.{next_follows, with_next}
-- What the table of a log says, in the log's words.
pub use Rattle.txn_table.proofs.Tables.{begun_few}
-- The table of open transactions: what each change keeps.
pub use Rattle.txn_table.proofs.Tracked.{match_none, match_some}
