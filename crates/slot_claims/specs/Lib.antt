pub mod Adders
pub mod Claims
pub mod HolderByte
pub mod Marks
pub mod RowSet
