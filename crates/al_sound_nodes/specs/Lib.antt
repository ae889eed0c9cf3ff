pub mod Nodes
pub mod Callees
