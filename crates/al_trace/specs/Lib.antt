pub mod Lines
pub mod Reading
pub mod Schedule
pub mod Sending
