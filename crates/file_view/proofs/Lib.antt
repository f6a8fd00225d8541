mod CopyHeaders
mod Inputs
mod Slots
mod Reading
mod Apart
