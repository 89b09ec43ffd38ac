pub mod Mark
pub mod Shown
