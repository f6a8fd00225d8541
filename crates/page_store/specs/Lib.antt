pub mod FaultyStore
pub mod MemStore
pub mod Store
