pub mod Order
pub mod Races
pub mod Examples
