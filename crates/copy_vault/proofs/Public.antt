-- The laws of this crate that proofs of the crates above it cite. Its other lemmas are its own.

-- Chains of copies, and the pages that they have.
pub use Rattle.copy_vault.proofs.Chains.{contents_numbered, some_members}
-- What the bytes that were read of an archive say of the whole input.
pub use Rattle.copy_vault.proofs.ArchiveReads.{same_copy}
-- The archives of a chain are not refused.
pub use Rattle.copy_vault.proofs.ChainOnly.{not_stopped, not_unmade}
-- Copies of an older life that a vault takes.
pub use Rattle.copy_vault.proofs.Added.{parent_there}
-- The copies of a vault, and what stays as they change.
pub use Rattle.copy_vault.proofs.Vaults.{GoesOn, goes_on_push, goes_on_set}
