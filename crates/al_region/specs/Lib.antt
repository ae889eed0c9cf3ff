pub mod Region
pub mod Kept
