pub mod Unnamed
pub mod Lists
mod SameSelf
mod Walks
mod Parts
pub mod Declares
pub mod Joint
pub mod FunctionNames
mod FunctionMoves
pub mod ItemMoves
pub mod SameTypes
mod NumbersAre
pub mod BuiltIs
pub mod FunctionsLead
pub mod MethodsAre
pub mod AdtsAre
pub mod DefinitionsHold
pub mod OwnBodies
pub mod MethodsLead
pub mod NoArraysAre
