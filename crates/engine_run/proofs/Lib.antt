pub mod Copying
pub mod Lives
pub mod Passes
pub mod Peeks
pub mod Quiet
pub mod Replied
pub mod Told
pub mod Works
