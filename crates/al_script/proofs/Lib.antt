pub mod Bounds
pub mod CountsOf
pub mod Ends
pub mod Opens
pub mod PicksAre
pub mod Schedules
pub mod Steps
pub mod Tasks
