pub mod Types
pub mod Order
pub mod Rules
pub mod Rows
