pub mod Bodies
pub mod Talks
pub mod Dispatch
pub mod Alts
