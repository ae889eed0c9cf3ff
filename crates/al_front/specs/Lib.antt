pub mod Stops
pub mod Accepted
