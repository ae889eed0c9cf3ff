pub mod Operating
pub mod Binary
pub mod Loads
pub mod Spots
pub mod Rows
pub mod Calls
pub mod Pairs
pub mod Logic
