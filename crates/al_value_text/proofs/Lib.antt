pub mod Shapes
pub mod Cuts
