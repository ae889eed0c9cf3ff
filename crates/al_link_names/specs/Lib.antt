pub mod Reserved
pub mod Twice
