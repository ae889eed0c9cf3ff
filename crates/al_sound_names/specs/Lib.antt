pub mod Few
pub mod WellTyped
