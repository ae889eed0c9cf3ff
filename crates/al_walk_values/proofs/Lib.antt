pub mod Evaluations
pub mod WorkLists
pub mod CallWorks
