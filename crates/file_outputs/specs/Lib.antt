pub mod ManifestFaults
pub mod Outputs
pub mod Places
pub mod Saves
pub mod Unfinished
pub mod VolumeOutputs
