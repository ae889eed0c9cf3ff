mod Addresses
mod Main
mod Example
pub mod Opening
