pub mod Heads
pub mod Ahead
pub mod Begun
pub mod Parse
pub mod Known
pub mod Calls
