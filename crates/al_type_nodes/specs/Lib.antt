pub mod Rules
pub mod Uses
pub mod Names
pub mod Members
pub mod Calls
