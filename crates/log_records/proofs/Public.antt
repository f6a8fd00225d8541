-- The laws of this crate that proofs of the crates above it cite. Its other lemmas are its own.

-- The changes of valid records.
pub use Rattle.log_records.proofs.Changes.{change_within, changed_fits, valid_change}
-- Which changes of a log a page has that was kept elsewhere meanwhile.
pub use Rattle.log_records.proofs.Coverage.{all_redone, at_each, clean_is_image, covers_later}
pub use Rattle.log_records.proofs.Coverage.{covers_lower, dirty_covers, has_each, image-same}
pub use Rattle.log_records.proofs.Coverage.{image_is_clean, of_each, past_is_named, rec_later}
pub use Rattle.log_records.proofs.Coverage.{resume_covering, same_redo}
-- Records that give the volume no page count.
pub use Rattle.log_records.proofs.GivenNone.{checkpoint_gives_none, page_count-same}
pub use Rattle.log_records.proofs.GivenNone.{transaction_gives_none}
-- The pages that records make, one record after another.
pub use Rattle.log_records.proofs.Images.{changes_or_not, image_from-append, image_from-more}
pub use Rattle.log_records.proofs.Images.{images-none, length-redo_all, lsn-image, no_change}
pub use Rattle.log_records.proofs.Images.{none_changed, number-image, number-image_from}
pub use Rattle.log_records.proofs.Images.{number-with_record, numbered-images, numbered-redo_all}
pub use Rattle.log_records.proofs.Images.{other_page, redo_all-append, with_record-has}
-- The bytes of a log: its header, and its records one after another.
pub use Rattle.log_records.proofs.Logs.{format_in-append, format_in-header, format_in-take}
pub use Rattle.log_records.proofs.Logs.{format_of_log, header_of_log, length-header, length-log}
pub use Rattle.log_records.proofs.Logs.{range_in, record_of_log, same_log, spells_cut}
-- The page count of a volume along its log: it never falls, so a record that names no page past the
-- count at its place names none past the count at any later one.
pub use Rattle.log_records.proofs.PageCounts.{all_within, count_after-none, count_behind-append}
pub use Rattle.log_records.proofs.PageCounts.{count_behind-next, count_behind-nil}
pub use Rattle.log_records.proofs.PageCounts.{count_behind-not_less, count_behind-push}
pub use Rattle.log_records.proofs.PageCounts.{count_behind-rises, count_below-counts_of}
pub use Rattle.log_records.proofs.PageCounts.{last_count-counts_of, more-none, page_count-is_count}
pub use Rattle.log_records.proofs.PageCounts.{page_count-push, page_count_at-all}
pub use Rattle.log_records.proofs.PageCounts.{page_count_at-append, page_count_at-not_more}
pub use Rattle.log_records.proofs.PageCounts.{page_count_at-take, stands_in, valid_cut}
-- Pages past the volume: no record of the log names them.
pub use Rattle.log_records.proofs.PastVolume.{image_past, not_changed, past_is_formatted}
pub use Rattle.log_records.proofs.PastVolume.{redo_all-grown}
-- The numbers of a record that a log may have.
pub use Rattle.log_records.proofs.Records.{record_length, same_record}
-- Stored pages and images that are being written, while the log and the writes go on.
pub use Rattle.log_records.proofs.Stored.{past_is_older, past_now, stored_begun, stored_ended}
pub use Rattle.log_records.proofs.Stored.{stored_failed, stored_later}
