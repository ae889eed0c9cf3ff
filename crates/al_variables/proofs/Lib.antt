pub mod Placements
pub mod Pointees
