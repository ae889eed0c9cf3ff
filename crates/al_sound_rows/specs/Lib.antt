pub mod Unnamed
pub mod Units
pub mod Rows
