pub mod Refusal
pub mod Exactly
pub mod Image
pub mod Answer
pub mod Shown
pub mod Refuse
pub mod Accepted
pub mod Outcome
