pub mod Checkpoint
pub mod CountedLog
pub mod Counts
pub mod Marks
pub mod Receipt
pub mod Session
pub mod Sessions
pub mod Volume
