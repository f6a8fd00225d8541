pub mod Bytes
pub mod Calls
pub mod FileDisk
pub mod TrackedDisk
pub mod FileLog
pub mod FileStore
