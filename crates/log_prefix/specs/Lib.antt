pub mod Front
pub mod Remains
