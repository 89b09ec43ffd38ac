pub mod Applies
pub mod Unions
pub mod Visits
pub mod Leaves
pub mod Pairs
pub mod Along
pub mod Readies
