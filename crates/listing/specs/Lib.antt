pub mod Listing
pub mod Start
