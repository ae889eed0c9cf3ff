pub mod Rules
pub mod Operands
