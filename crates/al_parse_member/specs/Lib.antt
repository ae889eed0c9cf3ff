pub mod Parameters
pub mod Members
pub mod Nests
