pub mod Begun
pub mod Parse
pub mod Nests
pub mod Calls
