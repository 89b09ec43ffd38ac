pub mod Bridge
pub mod Judges
pub mod Demands
