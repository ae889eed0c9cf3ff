pub mod Sense
pub mod Opened
