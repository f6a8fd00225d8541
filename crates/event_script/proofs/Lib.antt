pub mod Inputs
pub mod Lines
pub mod Numbers
pub mod OneFault
pub mod Scripts
