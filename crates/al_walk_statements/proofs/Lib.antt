pub mod Comparisons
pub mod PutBounds
pub mod Rests
pub mod TakenBounds
pub mod Turns
