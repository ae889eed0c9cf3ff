pub mod BadLines
pub mod Digits
pub mod FromHost
pub mod Told
pub mod Unique
