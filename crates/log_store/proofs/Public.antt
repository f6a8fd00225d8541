-- The laws of this crate that proofs of the crates above it cite. Its other lemmas are its own.

-- Which fault is the first.
pub use Rattle.log_store.proofs.Faults.{StartsWith, break_at, first_chain, first_record}
pub use Rattle.log_store.proofs.Faults.{first_too_long, first_torn, none_in_log, range_of_front}
-- What is said of an input that is known.
pub use Rattle.log_store.proofs.Inputs.{at_some}
-- The bytes of master records.
pub use Rattle.log_store.proofs.Masters.{length-master_bytes, same_master}
-- The redo of records by their numbers, one after another.
pub use Rattle.log_store.proofs.Numbered.{all_more, none_more, some_more}
-- The bytes of a log have one first fault at most.
pub use Rattle.log_store.proofs.OneFault.{one_first_fault}
