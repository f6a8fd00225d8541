pub mod Counts
pub mod Fronts
pub mod Knowns
pub mod Kept
pub mod Formatted
