pub mod Fitting
pub mod Works
pub mod Asks
