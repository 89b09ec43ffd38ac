pub mod Passes
pub mod Answers
pub mod Alike
pub mod Exactly
