pub mod Units
pub mod Reaches
pub mod Fits
