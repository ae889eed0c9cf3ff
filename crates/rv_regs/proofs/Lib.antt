pub mod Plain
pub mod Branches
pub mod Marking
pub mod Saying
pub mod Least
pub mod Naming
pub mod Placing
pub mod Homing
