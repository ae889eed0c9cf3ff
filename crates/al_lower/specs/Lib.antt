pub mod Alike
pub mod Stored
pub mod Texts
