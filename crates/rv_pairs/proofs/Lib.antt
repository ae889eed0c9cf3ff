pub mod Settling
pub mod Bringing
pub mod Numbers
pub mod Orders
pub mod Inline
pub mod Routines
pub mod Widths
pub mod Converting
