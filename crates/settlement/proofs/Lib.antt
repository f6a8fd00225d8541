pub mod Answered
pub mod Orders
pub mod Logged
pub mod Marking
pub mod Below
mod Changed
pub mod Public
pub mod Sessions
pub mod Counted
pub mod Kept
