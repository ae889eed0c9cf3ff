pub mod Tree
pub mod Balance
pub mod Order
pub mod Size
pub mod Runs
pub mod Table
