pub mod Fits
pub mod Shows
