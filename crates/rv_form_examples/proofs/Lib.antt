pub mod Programs
pub mod Plain
pub mod Words
pub mod Flow
pub mod Acts
pub mod Division
