pub mod Types
pub mod Environment
