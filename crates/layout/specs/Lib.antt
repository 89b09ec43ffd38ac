pub mod Layout
pub mod Present
