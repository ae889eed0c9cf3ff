pub mod Reading
pub mod Changing
pub mod Updating
pub mod Stepping
pub mod Stepped
pub mod Clearing
pub mod Cleared
