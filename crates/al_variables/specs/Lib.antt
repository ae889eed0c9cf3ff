pub mod Placing
pub mod Members
