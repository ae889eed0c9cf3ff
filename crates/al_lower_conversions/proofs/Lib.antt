pub mod Sizes
pub mod Wrapping
pub mod Same
pub mod Integers
pub mod Words
pub mod Plain
pub mod Parts
pub mod Unary
