pub mod Rules
pub mod Asking
pub mod Types
pub mod Expressions
pub mod Statements
pub mod Items
pub mod Functions
