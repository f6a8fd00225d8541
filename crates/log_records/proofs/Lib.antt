pub mod Changes
pub mod Ckpts
pub mod Coverage
pub mod GivenNone
pub mod Images
pub mod Logs
pub mod PageCounts
pub mod PastVolume
mod Puts
pub mod Public
pub mod Records
pub mod Stored
