pub mod Whys
pub mod Tells
pub mod Openings
pub mod Worlds
pub mod Standing
pub mod Entries
