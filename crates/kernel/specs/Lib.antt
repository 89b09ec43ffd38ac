pub mod Fire
pub mod Conclude
pub mod Apply
