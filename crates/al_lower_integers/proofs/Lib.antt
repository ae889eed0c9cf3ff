pub mod Constants
pub mod Negations
pub mod Movements
