-- The laws of this crate that proofs of the crates above it cite. Its other lemmas are its own.

-- The numbers of the records on a page, one record after another.
pub use Rattle.page_redo.proofs.Counted.{numbers_more, numbers_with, records_of_first}
-- The pages that a log makes are pages that a volume may have.
pub use Rattle.page_redo.proofs.Valid.{valid-past}
-- What is written a group of items after another.
pub use Rattle.page_redo.proofs.Groups.{further, group, whole}
