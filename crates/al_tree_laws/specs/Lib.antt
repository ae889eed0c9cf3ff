pub mod Bases
pub mod Unions
pub mod Texts
pub mod Counts
