pub mod Short
pub mod Bytes
pub mod Unnamed
