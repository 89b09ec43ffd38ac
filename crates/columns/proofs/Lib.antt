pub mod Fills
pub mod OneColumn
pub mod Pushes
pub mod Shows
