pub mod Lighter
pub mod Total
