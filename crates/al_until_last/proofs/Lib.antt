pub mod Answerable
pub mod Lifting
