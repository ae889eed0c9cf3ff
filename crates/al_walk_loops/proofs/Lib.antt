pub mod WorkLists
pub mod LoopRounds
pub mod LoopSteps
pub mod PutLists
pub mod StatementRows
pub mod Goings
