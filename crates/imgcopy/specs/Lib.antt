pub mod Ends
pub mod Strict
