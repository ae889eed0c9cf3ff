pub mod Rounds
pub mod Askings
pub mod Whys
pub mod Needs
pub mod Prints
pub mod PutCalls
pub mod DoneStatements
pub mod Frames
