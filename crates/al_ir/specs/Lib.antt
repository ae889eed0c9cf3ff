pub mod Units
pub mod Control
pub mod Step
pub mod Meaning
pub mod Told
pub mod Laws
pub mod Bounds
pub mod Building
