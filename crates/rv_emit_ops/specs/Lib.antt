pub mod Plans
pub mod Emitting
