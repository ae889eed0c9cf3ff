pub mod Remainders
pub mod TypesConverted
pub mod Fitted
pub mod SpelledBytes
pub mod Paths
pub mod UnitSizes
pub mod Parts
