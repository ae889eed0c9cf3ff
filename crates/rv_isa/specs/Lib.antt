pub mod Fields
pub mod Image
pub mod Parts
pub mod Table
pub mod Micro
