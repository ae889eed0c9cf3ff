pub mod Computed
pub mod Members
pub mod Stored
