pub mod Marks
pub mod Shows
