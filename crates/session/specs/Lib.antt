pub mod Answer
pub mod Session
pub mod Grown
pub mod Symbols
