pub mod Code
pub mod Long
