pub mod Backups
pub mod ClosedVolume
