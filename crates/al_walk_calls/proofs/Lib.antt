pub mod BegunFrames
pub mod Choices
pub mod FunctionNames
pub mod GivenFrames
pub mod Onward
pub mod SharedLocals
pub mod SmallTypes
pub mod StackRoom
