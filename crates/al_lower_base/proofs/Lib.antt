pub mod Behind
pub mod Converting
pub mod Unconverted
