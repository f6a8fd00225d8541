pub mod Checked
pub mod Expected
pub mod Known
pub mod Left
