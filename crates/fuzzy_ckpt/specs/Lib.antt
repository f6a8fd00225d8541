pub mod Answers
pub mod Ckpt
pub mod LogCheckpoints
pub mod Steps
