pub mod Placed
pub mod Positions
pub mod Reading
pub mod Started
pub mod Standing
