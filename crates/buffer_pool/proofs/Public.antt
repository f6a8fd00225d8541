-- The laws of this crate that proofs of the crates above it cite. Its other lemmas are its own.

-- A page that is fetched, and the page that is given up for it.
pub use Rattle.buffer_pool.proofs.Fetching.{all_stay, dirty_kept, fetched_free, fetched_given_up}
pub use Rattle.buffer_pool.proofs.Fetching.{full_if, length_less, read_is, resident_last}
-- A volume that grows: the states of the added pages, and the pool of the log with an Extend behind it.
pub use Rattle.buffer_pool.proofs.Grown.{extended_at, length-extended, map-extended}
pub use Rattle.buffer_pool.proofs.Grown.{stored_extended, stored_grown}
-- A pool of a log, while the log grows and writes go on.
pub use Rattle.buffer_pool.proofs.Pools.{images_later, none_changes, numbers_later, pool_same}
pub use Rattle.buffer_pool.proofs.Pools.{resident_later}
-- A page that is stored as it is now, while no write of it is in progress.
pub use Rattle.buffer_pool.proofs.Repaired.{stored_half, stored_repaired}
-- A pool over stored pages that are as their log makes them.
pub use Rattle.buffer_pool.proofs.Resumed.{pool_resumed, state_of_page}
-- The state of a page, while its log grows and writes of it go on.
pub use Rattle.buffer_pool.proofs.States.{image_below}
