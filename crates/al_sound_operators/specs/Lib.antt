pub mod Typed
pub mod Operands
pub mod Operators
pub mod Places
