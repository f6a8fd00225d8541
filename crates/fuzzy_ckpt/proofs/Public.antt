-- The laws of this crate that proofs of the crates above it cite. Its other lemmas are its own.

-- A record of a checkpoint leaves the pool and the table of the log what they are.
pub use Rattle.fuzzy_ckpt.proofs.Beside.{pool_kept, table_kept}
-- What the stored pages cover, while the log and the writes go on.
pub use Rattle.fuzzy_ckpt.proofs.Covers.{all_grown, all_later, all_written, behind_grown}
pub use Rattle.fuzzy_ckpt.proofs.Covers.{behind_later, behind_written, now_covers}
-- The ends of a checkpoint, and where they stand.
pub use Rattle.fuzzy_ckpt.proofs.Ends.{begun_is, end_covers, end_pages, end_stands}
-- The last complete checkpoint of a log, while no other ends.
pub use Rattle.fuzzy_ckpt.proofs.LastCkpts.{last_other}
-- The open checkpoint of a log, while the log goes on.
pub use Rattle.fuzzy_ckpt.proofs.Opens.{ckpt_grown, ckpt_kept, open_before, open_grown, open_push}
pub use Rattle.fuzzy_ckpt.proofs.Opens.{open_same}
-- A step over pages: its record may come next, and what the checkpoint is after it.
pub use Rattle.fuzzy_ckpt.proofs.PagesSteps.{MorePages, more_pages, none_covered, none_kept}
-- A step over transactions: its record may come next, and what the checkpoint is after it.
pub use Rattle.fuzzy_ckpt.proofs.TxnsSteps.{MoreTxns, all_passed, more_txns, txns_cover}
