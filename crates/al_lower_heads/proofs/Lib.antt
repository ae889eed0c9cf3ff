pub mod Dispatching
pub mod Rows
pub mod Turning
