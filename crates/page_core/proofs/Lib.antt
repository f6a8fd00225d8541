pub mod Counts
pub mod EightBytes
pub mod Formats
pub mod Inputs
pub mod PageBytes
pub mod Pieces
pub mod Public
pub mod Volumes
