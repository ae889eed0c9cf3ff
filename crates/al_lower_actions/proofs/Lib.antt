pub mod Assigning
pub mod Channels
pub mod Elements
pub mod Sending
pub mod Objects
