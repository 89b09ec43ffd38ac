pub mod Refuses
pub mod Lists
pub mod FirstPage
pub mod Long
