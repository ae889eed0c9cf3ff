pub mod Unnamed
pub mod Constants
pub mod Members
pub mod Whole
pub mod Tells
