pub mod Fits
pub mod Referred
