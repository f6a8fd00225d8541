pub mod Decisions
pub mod Slots
pub mod HeldDecisions
