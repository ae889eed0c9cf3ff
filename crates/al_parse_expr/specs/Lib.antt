pub mod Parse
pub mod Nests
pub mod Part
pub mod Within
pub mod Calls
