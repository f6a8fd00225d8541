-- The laws of this crate that proofs of the crates above it cite. Its other lemmas are its own.

pub use Rattle.session_lines.proofs.Lines.{AreTaken, IsTaken, all_lines, first_lines, none_taken, one_taken}
