-- The laws of this crate that proofs of the crates above it cite. Its other lemmas are its own.

-- Audited chains: what they lack, what is a part of one, and why they are not refused.
pub use Rattle.copy_audit.proofs.Audits.{covering_of_audited, from_outside, same_copies}
pub use Rattle.copy_audit.proofs.Audits.{same_log_of}
