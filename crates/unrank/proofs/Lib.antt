pub mod Begins
pub mod Plans
pub mod Room
