pub mod Archives
pub mod Calls
pub mod Outcome
pub mod Recovered
