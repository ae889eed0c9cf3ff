pub mod Runs
pub mod Layouts
pub mod Rows
pub mod Programs
