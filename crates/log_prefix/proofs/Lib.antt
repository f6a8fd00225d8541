pub mod Cuts
pub mod Forced
pub mod Fronts
pub mod Pieces
pub mod Scanned
pub mod Places
