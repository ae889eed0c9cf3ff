pub mod Firsts
pub mod Shadows
pub mod Names
pub mod Rules
pub mod Types
pub mod Expressions
pub mod Statements
pub mod Items
