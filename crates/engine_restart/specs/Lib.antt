pub mod Added
pub mod Chained
pub mod Found
pub mod Interrupted
pub mod Lives
pub mod LogFile
pub mod Restart
