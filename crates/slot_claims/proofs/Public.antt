-- The laws of this crate that proofs of the crates above it cite. Its other lemmas are its own.

-- Claims, row by row and slot by slot; and what is known of an `Err` whether it comes or not.
pub use Rattle.slot_claims.proofs.Holds.{free-before, has_row-no_rows, held-before, hold_in-no_claim, on_err_from}
