pub mod Units
pub mod Ways
