pub mod Formats
pub mod Operators
