pub mod PowerCuts
pub mod WholeLives
