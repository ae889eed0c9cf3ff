pub mod LowBytes
pub mod Explained
pub mod Placed
