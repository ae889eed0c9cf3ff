pub mod Sizes
pub mod Types
pub mod Expressions
pub mod Statements
pub mod Items
pub mod Limits
