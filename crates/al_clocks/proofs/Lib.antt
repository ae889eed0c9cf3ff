pub mod Facts
pub mod Coming
pub mod Steps
pub mod Telling
