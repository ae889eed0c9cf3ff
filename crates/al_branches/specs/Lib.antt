pub mod Statements
pub mod Numbers
pub mod Tables
pub mod Law
