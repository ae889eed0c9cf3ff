pub mod Runs
mod Walked
pub mod Room
