-- The laws of this crate that proofs of the crates above it cite. Its other lemmas are its own.

pub use Rattle.database_files.proofs.FolderChanges.{adds_more, adds_one, both, cleared_by, finished_more, given, keeps_manifest, kept_beside, kept_left, kept_put, known_after, left_either, on_ok, on_ok_all, puts_aside, refused_in, removed, so, then}
pub use Rattle.database_files.proofs.Founds.{all_found, no_log_told, no_orphan, tells_closed, tells_manifest, tells_master}
pub use Rattle.database_files.proofs.Weighed.{holds_if_ok}
pub use Rattle.database_files.proofs.Masters.{told_not, wrong_in, wrong_same}
pub use Rattle.database_files.proofs.PutAside.{no_note, note_beside_volume, note_finished, note_here, note_stays, puts_more, puts_none, puts_one, stays_here, still_without, tells_still}
pub use Rattle.database_files.proofs.Puts.{put_and_synced, was_kept, whole_kept}
pub use Rattle.database_files.proofs.SecondNames.{by_test, copy_apart, copy_finished, log_finished, log_manifest, log_master, log_no_copy, manifest_finished, manifest_no_copy, master_finished, master_manifest, master_no_copy}
pub use Rattle.database_files.proofs.Standings.{keeps_finished, keeps_log, keeps_more, keeps_same, keeps_volume}
pub use Rattle.database_files.proofs.SummedLog.{others_left, removed_unknown}
pub use Rattle.database_files.proofs.Whole.{weighed_all}
pub use Rattle.database_files.proofs.Notes.{is_few}
