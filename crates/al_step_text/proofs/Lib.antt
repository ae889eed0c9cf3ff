pub mod RangesAre
pub mod FirstItems
pub mod FirstLines
pub mod BlocksAre
pub mod Whole
