pub mod NextValues
pub mod Placements
pub mod WorkLists
pub mod TargetPlaces
pub mod Savings
pub mod Losses
