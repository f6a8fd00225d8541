mod Refused
mod Redone
mod Undoing
mod Recovering
mod GoesOn
