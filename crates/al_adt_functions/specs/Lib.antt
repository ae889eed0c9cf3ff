pub mod Rules
pub mod Bodies
pub mod Owned
pub mod Searches
pub mod Heads
pub mod Functions
