pub mod Rules
pub mod Written
pub mod Types
pub mod Members
