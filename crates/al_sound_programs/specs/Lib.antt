pub mod Unnamed
pub mod Starts
pub mod Functions
pub mod Programs
