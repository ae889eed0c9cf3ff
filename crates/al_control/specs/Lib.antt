pub mod Models
pub mod Takes
pub mod Fits
