pub mod Sums
pub mod Steps
pub mod Allowed
pub mod Joined
