pub mod Fetching
pub mod OpenCkpt
