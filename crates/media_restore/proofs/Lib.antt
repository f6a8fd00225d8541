mod Audits
pub mod Loads
pub mod Masters
mod OneMasterFault
mod Rebuilds
pub mod Restored
mod Saved
mod SavedFaults
mod Undoing
mod Untils
mod WithLog
