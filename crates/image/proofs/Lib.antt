pub mod Refusals
pub mod Named
pub mod Images
pub mod Decided
pub mod Outcomes
pub mod Long
pub mod Examples
pub mod Flags
