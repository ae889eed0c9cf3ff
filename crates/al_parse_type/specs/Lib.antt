pub mod Parse
pub mod Nests
pub mod Within
pub mod Calls
