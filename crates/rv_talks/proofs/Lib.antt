pub mod Words
pub mod Starts
pub mod Records
pub mod Pars
pub mod ParActs
pub mod Branches
pub mod TalkActs
