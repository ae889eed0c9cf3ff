pub mod Elements
pub mod Named
