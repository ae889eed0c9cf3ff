pub mod Scripts
pub mod Worlds
pub mod Stops
