pub mod Statements
pub mod Bodies
pub mod Named
pub mod Gathered
