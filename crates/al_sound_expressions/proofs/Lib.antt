pub mod TargetsAre
pub mod ExpressionLists
pub mod NodesOf
pub mod ExpressionsAre
pub mod TreesAre
