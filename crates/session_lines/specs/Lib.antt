pub mod Said
pub mod Commands
pub mod Lines
pub mod Orders
