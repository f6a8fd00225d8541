-- The laws of this crate that proofs of the crates above it cite. Its other lemmas are its own.

-- The chain of a vault's copy, and what a crash leaves of its log.
pub use Rattle.copy_coverage.proofs.Chains.{covered_of_members, restored_of_members}
-- What a chain has of a page, by what its last copy decided.
pub use Rattle.copy_coverage.proofs.Contents.{content_by}
-- The copies of a volume go on with its log, its stored pages and one another.
pub use Rattle.copy_coverage.proofs.Copied.{copied_decided, copied_dropped, copied_forced}
pub use Rattle.copy_coverage.proofs.Copied.{copied_later, copied_opened, copied_sealed}
pub use Rattle.copy_coverage.proofs.Copied.{copied_stored, restorable}
-- Copies, while formatted pages are added to the stored ones.
pub use Rattle.copy_coverage.proofs.Growth.{copied_grown}
-- What a page lacks of a log that a crash left.
pub use Rattle.copy_coverage.proofs.Kept.{covers_kept, kept_count_below, prefix_is_log}
-- Pages past the page count at an LSN: no record below it changes them, so whatever was made of such
-- a page has all of its changes below that LSN.
pub use Rattle.copy_coverage.proofs.LaterPages.{count_below-not_less, count_below-not_more}
pub use Rattle.copy_coverage.proofs.LaterPages.{formatted_is_past, later_covers, lsn_of_formatted}
-- One of the copies of a volume changes, and the others stay.
pub use Rattle.copy_coverage.proofs.OneCopy.{IsChanged, MayStand, complete_same, copied_changed}
pub use Rattle.copy_coverage.proofs.OneCopy.{opened_changes}
-- What a complete checkpoint of a log names.
pub use Rattle.copy_coverage.proofs.Points.{begin_before_end, end_is_record, point_of}
pub use Rattle.copy_coverage.proofs.Points.{redo_before_end}
