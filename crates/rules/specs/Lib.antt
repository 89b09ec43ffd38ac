pub mod Fault
pub mod Tests
