pub mod Pages
pub mod Reached
