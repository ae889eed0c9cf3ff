pub mod Converting
pub mod Receiving
