pub mod DeskValue
pub mod DeskMemo
pub mod Crew
pub mod Working
