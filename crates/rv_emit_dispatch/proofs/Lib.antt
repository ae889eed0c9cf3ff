pub mod Splitting
pub mod Values
