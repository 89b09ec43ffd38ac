pub mod Behind
pub mod Ranks
