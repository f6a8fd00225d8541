-- The laws of this crate that proofs of the crates above it cite. Its other lemmas are its own.

-- Whether a file is the one that is named.
pub use Rattle.manifest.proofs.Checks.{is_decided}
-- Two texts with one sum.
pub use Rattle.manifest.proofs.Collisions.{at_hand}
-- What is noted under a name, and under the others.
pub use Rattle.manifest.proofs.Names.{noted_known, others_kept}
