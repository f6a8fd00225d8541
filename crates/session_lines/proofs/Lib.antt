pub mod Lines
pub mod Public
mod Spelled
