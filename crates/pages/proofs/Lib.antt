pub mod Following
pub mod Stepping
pub mod Rooted
pub mod Laid
