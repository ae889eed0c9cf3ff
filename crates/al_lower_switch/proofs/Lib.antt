pub mod Cases
pub mod Tests
pub mod Switches
