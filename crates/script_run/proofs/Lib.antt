mod Faultless
mod Runs
