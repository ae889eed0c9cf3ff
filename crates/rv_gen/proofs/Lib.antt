pub mod Bounded
pub mod Having
pub mod Heads
pub mod Imaging
pub mod Pieces
pub mod Steps
