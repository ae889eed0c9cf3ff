pub mod Bounds
pub mod Clocks
