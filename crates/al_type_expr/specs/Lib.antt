pub mod Leaves
pub mod Lists
pub mod Parts
pub mod Nodes
