-- The laws of this crate that proofs of the crates above it cite. Its other lemmas are its own.

pub use Rattle.database_session.proofs.Served.{begins_all, by_all_lines, by_lines, by_lines_lives, no_first, no_lines, some_lines}
pub use Rattle.database_session.proofs.CommandCopies.{copies_behind_point, tells_copy}
