pub mod Working
pub mod Crew
