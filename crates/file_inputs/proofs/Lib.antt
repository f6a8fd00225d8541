mod CopyChains
mod PathParts
mod Placed
