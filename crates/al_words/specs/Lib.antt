pub mod Command
pub mod Job
