mod Files
mod Ids
mod Sounds
mod Sums
