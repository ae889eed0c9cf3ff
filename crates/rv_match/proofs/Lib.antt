pub mod Following
pub mod Alike
pub mod Simulating
pub mod Counting
pub mod Keeping
pub mod Steps
pub mod Turning
