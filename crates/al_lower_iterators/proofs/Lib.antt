pub mod Words
pub mod Bounds
pub mod Iterators
