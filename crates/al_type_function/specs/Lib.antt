pub mod Numbers
pub mod Own
pub mod Locals
pub mod Texts
pub mod Branches
pub mod Functions
