pub mod Holds
pub mod Labelled
pub mod Ends
