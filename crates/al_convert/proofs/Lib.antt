pub mod SameIs
pub mod ConversionsAre
pub mod RowItems
pub mod Alikes
