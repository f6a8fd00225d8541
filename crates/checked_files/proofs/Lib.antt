mod Knowns
mod Lefts
mod Rights
