pub mod Decisions
pub mod Laid
pub mod Marks
pub mod Public
pub mod InOrder
pub mod OneMore
