pub mod Operators
pub mod Constants
pub mod Folding
