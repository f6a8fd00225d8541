-- The laws of this crate that proofs of the crates above it cite. Its other lemmas are its own.

-- What is decided of the pages of a copy, and how many were taken.
pub use Rattle.page_decisions.proofs.Decisions.{all_decided, count_within, least_is, map-replicate}
pub use Rattle.page_decisions.proofs.Decisions.{none_counted, none_left}
-- The decisions of a copy that holds only the pages that it took, in order of their numbers.
pub use Rattle.page_decisions.proofs.InOrder.{taken_kept}
-- One decision more of a copy, or one more element of a list.
pub use Rattle.page_decisions.proofs.OneMore.{all_push, taken_push, taken_push_kept}
