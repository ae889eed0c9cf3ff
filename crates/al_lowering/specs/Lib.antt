pub mod Addresses
pub mod Example
pub mod Runs
