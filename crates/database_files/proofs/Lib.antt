pub mod FolderChanges
pub mod Founds
pub mod Weighed
mod Inventories
mod KeptLines
pub mod Masters
pub mod Notes
mod Numbers
pub mod Public
pub mod PutAside
pub mod Puts
pub mod SecondNames
pub mod Standings
pub mod SummedLog
pub mod Whole
