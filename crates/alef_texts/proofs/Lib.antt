pub mod Checks
pub mod Lines
pub mod Loading
pub mod Reports
pub mod Schedules
pub mod Stepping
pub mod Steps
pub mod Told
