pub mod Channels
pub mod LiveTasks
