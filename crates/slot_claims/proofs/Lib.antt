pub mod AdderSets
pub mod Holds
pub mod Paged
pub mod Public
pub mod Rooms
pub mod SlotMarks
pub mod Taken
