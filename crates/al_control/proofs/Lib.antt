pub mod Takings
pub mod JoinedWords
pub mod Reversed
pub mod Lines
