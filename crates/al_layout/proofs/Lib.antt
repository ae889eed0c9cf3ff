pub mod SameAre
pub mod Fronts
pub mod TypesAre
pub mod PartsAre
pub mod RoundsAre
pub mod RowsAre
