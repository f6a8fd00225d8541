pub mod EventFits
pub mod Refusal
