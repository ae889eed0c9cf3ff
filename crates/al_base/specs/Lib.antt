pub mod Arith
mod Examples
pub mod Line
pub mod Trap
