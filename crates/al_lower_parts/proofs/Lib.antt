pub mod InTargets
pub mod Passing
