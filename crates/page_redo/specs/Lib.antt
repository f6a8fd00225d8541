pub mod PageRecords
pub mod Placed
pub mod Redo
pub mod Stream
