mod CopyCalls
mod DirtyPages
mod PageWrites
pub mod Public
mod Runs
mod SealedAgain
pub mod Served
mod Waiting
pub mod CommandCopies
mod CommandRuns
