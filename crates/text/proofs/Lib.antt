pub mod Short
pub mod Fewest
pub mod Lines
pub mod Pairs
pub mod Puts
