pub mod JudgeBytes
pub mod CountBytes
pub mod ReadingBytes
pub mod Same
pub mod Exact
