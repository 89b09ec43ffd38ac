pub mod Truth
pub mod Sum
pub mod Bit
pub mod Word
pub mod Frame
