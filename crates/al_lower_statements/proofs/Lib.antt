pub mod Labels
pub mod Functions
pub mod Terms
pub mod Statements
