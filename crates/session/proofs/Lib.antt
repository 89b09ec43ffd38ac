pub mod Adds
pub mod TakesBack
pub mod Grows
pub mod ByName
pub mod Exactly
