pub mod Named
pub mod Reach
pub mod Reading
pub mod Sound
pub mod Summed
