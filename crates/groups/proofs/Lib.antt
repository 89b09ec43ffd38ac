pub mod Read
pub mod Places
