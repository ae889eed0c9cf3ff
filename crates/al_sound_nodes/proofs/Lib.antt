pub mod NodesAre
pub mod CalleesAre
