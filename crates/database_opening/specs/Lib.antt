pub mod Copies
pub mod FirstLine
pub mod OldVolume
pub mod Opened
pub mod Ready
