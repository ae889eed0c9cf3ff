pub mod Examples
pub mod Immediates
pub mod Apart
pub mod Encoding
