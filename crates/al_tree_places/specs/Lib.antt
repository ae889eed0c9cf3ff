pub mod Names
pub mod Jumps
pub mod Apart
pub mod Entries
pub mod Few
