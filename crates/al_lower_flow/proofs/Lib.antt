pub mod Sizes
pub mod Flow
pub mod Loops
pub mod Pieces
pub mod Choices
pub mod Rounds
