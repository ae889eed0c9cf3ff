pub mod AlikeTypes
pub mod Bodies
pub mod Firsts
pub mod Members
pub mod Runs
pub mod SameParameters
pub mod TextPlaces
pub mod Wide
