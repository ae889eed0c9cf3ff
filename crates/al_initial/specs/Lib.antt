pub mod Rules
pub mod Start
pub mod Initializers
pub mod Adts
pub mod Walks
pub mod Whole
