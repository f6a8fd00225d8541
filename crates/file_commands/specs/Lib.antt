pub mod FolderChains
pub mod Redone
pub mod Statuses
