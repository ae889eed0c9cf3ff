pub mod Branches
pub mod Counts
