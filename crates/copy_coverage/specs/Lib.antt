pub mod Copied
pub mod Kept
pub mod Retired
