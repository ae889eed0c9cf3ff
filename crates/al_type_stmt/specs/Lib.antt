pub mod Iterators
pub mod Numbers
pub mod Statements
