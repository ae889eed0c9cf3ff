pub mod ListsAre
pub mod NodesAre
pub mod SizesAre
