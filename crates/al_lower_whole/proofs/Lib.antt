pub mod Addresses
pub mod Targets
pub mod Whole
