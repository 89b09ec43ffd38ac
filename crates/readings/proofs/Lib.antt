pub mod Refuses
pub mod Only
pub mod Numbered
pub mod Undone
pub mod Pages
pub mod Exactly
pub mod Flags
