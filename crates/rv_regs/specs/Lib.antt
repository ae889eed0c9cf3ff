pub mod Uses
pub mod Homes
pub mod Marks
pub mod Widening
pub mod Rows
pub mod Placed
