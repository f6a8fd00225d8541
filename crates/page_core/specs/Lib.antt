pub mod Change
pub mod Failures
pub mod FaultName
pub mod Format
pub mod Input
pub mod Page
pub mod PageCounts
pub mod Volume
