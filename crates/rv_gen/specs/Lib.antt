pub mod Emitting
pub mod Generating
